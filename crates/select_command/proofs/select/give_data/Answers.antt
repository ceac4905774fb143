use Rattle.std.proofs.Common.{◌≡◌, ℕ, List, [], length, Option, None, Some, false, refl, sym, ap, subst, arith, rules}
use Rattle.card_model.specs.declared.requests.Returned.{Returned}
use Rattle.undo_journal.specs.Memory.{committed}
use Rattle.command_base.specs.declared.stop.Stop.TheVariants.{Refused, Failed}
use Rattle.command_base.specs.laws.Stopping.{finds-stopped, reads-stopped}
use Rattle.file_tree.specs.declared.entry.Entry.{Entry}
use Rattle.file_tree.specs.Table.{table, entry_in}
use Rattle.card_model.specs.Guards.{asks_less, IsGiven}
use Rattle.command_base.specs.TemplateParts.{data_in, template_in, IsToldEntry}
use Rattle.select_command.proofs.select.give_data.Goals as goal

-- nothing is given of no data
nothing-given : (expected : Option ℕ) (text : List ℕ) → text ≡ [] → IsGiven expected [] text None
nothing-given None text is = (refl, is, omega (arith, ap (λ (l : List ℕ). length l) is))
nothing-given (Some le) text is = (no-less le, is, omega (arith, ap (λ (l : List ℕ). length l) is))
  where
    no-less : (le : ℕ) → asks_less (Some le) [] ≡ false
    no-less le = grind arith

pub returns-in-Nothing-clause-data : goal.returns-in-Nothing-clause-data
returns-in-Nothing-clause-data g c = record {
  told = let entry = entry_in (table (committed c.args.store.now)) c.args.e in
      subst (λ (r : Returned). IsGiven c.args.expected (data_in r entry) c.clear.new.self.items None)
      (sym c.in-Nothing.is) (nothing-given c.args.expected c.clear.new.self.items c.clear.ensures);
  store = search rules;
}

pub returns-in_ok-give_template-in-Template-clause-data : goal.returns-in_ok-give_template-in-Template-clause-data
returns-in_ok-give_template-in-Template-clause-data g c = record {
  told = let m = committed c.args.store.now in
      let text = c.give_template.new.answer.items in
      subst (λ (r : Returned). IsGiven c.args.expected (data_in r (entry_in (table m) c.args.e)) text None)
      (sym c.in-Template.is) (subst (λ (y : Entry). IsGiven c.args.expected (template_in y) text None)
      c.in_ok-entry-in-Template.ensures.entry c.in_ok-give_template-in-Template.ensures);
  store = search rules;
}

pub returns-in_err-give_template-in-Template-clause-data : goal.returns-in_err-give_template-in-Template-clause-data
returns-in_err-give_template-in-Template-clause-data g c = record {
  told = let m = committed c.args.store.now in
      let text = c.give_template.new.answer.items in
      let status = c.in_err-give_template-in-Template.field-0.0 in
      finds-stopped _ (Refused status) c.from_residual-in_err-give_template-in-Template.ensures.1 _ _
      (subst (λ (r : Returned). IsGiven c.args.expected (data_in r (entry_in (table m) c.args.e)) text (Some status))
      (sym c.in-Template.is)
      (subst (λ (y : Entry). IsGiven c.args.expected (template_in y) text (Some status))
      c.in_ok-entry-in-Template.ensures.entry c.in_err-give_template-in-Template.ensures));
  store = reads-stopped _ (Refused c.in_err-give_template-in-Template.field-0.0)
      c.from_residual-in_err-give_template-in-Template.ensures.1 _ _ c.in_ok-entry-in-Template.ensures.store;
}

pub returns-in_err-entry-in-Template-clause-data : goal.returns-in_err-entry-in-Template-clause-data
returns-in_err-entry-in-Template-clause-data g c = record {
  told = finds-stopped _ (Failed c.in_err-entry-in-Template.field-0.0)
      c.from_residual.ensures.1 _ _ tt;
  store = reads-stopped _ (Failed c.in_err-entry-in-Template.field-0.0) c.from_residual.ensures.1 _ _
      c.in_err-entry-in-Template.ensures.store;
}

pub give_template-requires : goal.give_template-requires
give_template-requires g c = record {
  told = subst IsToldEntry (sym c.in_ok-entry-in-Template.ensures.entry)
      c.requires.entry.told;
}
