use Rattle.undo_journal.specs.laws.Exits.{none_ok}
use Rattle.std.proofs.Common.{None, Bool, if◌then◌else◌, sym, ◌∙◌, ap, ap₂}
use Rattle.undo_journal.specs.Memory.{committed}
use Rattle.card_model.specs.LifeCycle.{state_after}
use Rattle.card_model.specs.declared.life_cycle.LifeCycle.{LifeCycle}
use Rattle.file_tree.specs.declared.entry.Entry.{Entry}
use Rattle.file_tree.specs.Entries.{life_told}
use Rattle.file_tree.specs.laws.Barring.{barred_told, life_told_there}
use Rattle.undo_journal.specs.laws.Told.{reads_handed}
use Rattle.file_changes.proofs.life_cycles.next_life_cycle.Goals as goal

pub returns-then-barred : goal.returns-then-barred
returns-then-barred g c = record {
  told = let m = committed c.args.store.now in
      let e = c.args.e in
      let rules = c.requires.entry.file.tree.entries in
      ap (λ (b : Bool). if b then None else state_after c.args.command (life_told c.args.entry.now))
      (sym c.if-barred.true)
      ∙ ap₂ (λ (b : Bool) (life : LifeCycle). if b then None else state_after c.args.command life)
      (c.in_ok-barred.ensures.told ∙ barred_told m rules e c.requires.entry.file.used)
      (ap (λ (x : Entry). life_told x) c.requires.entry.entry ∙ sym
      (life_told_there m rules e c.requires.entry.file.used));
  store = c.in_ok-barred.ensures.store;
}

pub returns : goal.returns
returns g c = record {
  told = let m = committed c.args.store.now in
      let e = c.args.e in
      let rules = c.requires.entry.file.tree.entries in
      c.next_state.ensures ∙ ap (λ (life : LifeCycle). state_after c.args.command life) c.life_cycle.ensures
      ∙ ap (λ (b : Bool). if b then None else state_after c.args.command (life_told c.args.entry.now))
      (sym c.if-barred.false)
      ∙ ap₂ (λ (b : Bool) (life : LifeCycle). if b then None else state_after c.args.command life)
      (c.in_ok-barred.ensures.told ∙ barred_told m rules e c.requires.entry.file.used)
      (ap (λ (x : Entry). life_told x) c.requires.entry.entry ∙ sym
      (life_told_there m rules e c.requires.entry.file.used));
  store = c.in_ok-barred.ensures.store;
}

pub returns-in_err-barred : goal.returns-in_err-barred
returns-in_err-barred g c = record {
  told = none_ok _ _ _ c.from_residual.ensures.1;
  store = reads_handed _ _ _ _ c.from_residual.ensures.1 c.in_err-barred.ensures.store;
}

pub is_below_barred-requires-clause-file : goal.is_below_barred-requires-clause-file
is_below_barred-requires-clause-file g c = c.requires.entry.file

pub is_below_barred-requires-clause-parent : goal.is_below_barred-requires-clause-parent
is_below_barred-requires-clause-parent g c = c.new.ensures ∙ ap (λ (x : Entry). x.parent) c.requires.entry.entry
