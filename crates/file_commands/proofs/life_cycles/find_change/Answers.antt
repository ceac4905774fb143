use Rattle.std.proofs.Common.{◌≡◌, ℕ, List, Option, Some, IfSome, option_map, Result, sym, ◌∙◌, ap, subst}
use Rattle.card_model.specs.declared.status.Sw.{Sw}
use Rattle.undo_journal.specs.Memory.{committed}
use Rattle.file_tree.specs.Table.{table, path_of, IsUsed}
use Rattle.file_commands.specs.declared.life_cycles.Changed.{Changed}
use Rattle.file_commands.specs.LifeParts.{change_at}
use Rattle.command_base.specs.Standing.{card_of}
use Rattle.command_base.specs.Working.{session_of}
use Rattle.file_commands.proofs.LifeSteps.{changed-found, current-there, found-is}
use Rattle.file_commands.proofs.Missing.{change-missed}
use Rattle.command_base.specs.laws.Readings.{kept_still, used_still}
use Rattle.undo_journal.specs.laws.Told.{reads_on}
use Rattle.command_base.specs.declared.stop.Stop.TheVariants.{Failed}
use Rattle.command_base.specs.laws.Stopping.{finds-by, finds-stopped, reads-stopped}
use Rattle.file_commands.proofs.life_cycles.find_change.Goals as goal

pub returns : goal.returns
returns g c = record {
  told = let m = committed c.args.store.now in
      let x = c.args.current.now in
      let e = c.in-Some.number in
      let same = c.find_subject.ensures.found.store.only.keeps.committed_words in
      let place = changed-found m c.requires.card.kept.card x c.requires.card.kept.current c.args.change
      c.current_changed-own.result
      c.current_changed-own.ensures c.args.subject c.in_ok-number.field-0 c.in_ok-number.ensures.found.told
      ∙ ap (λ (found : Option ℕ). option_map (path_of (table m)) found) c.in-Some.is in
      let used = subst (λ (found : Option ℕ). IfSome found (IsUsed
      (table m))) c.in-Some.is c.in_ok-number.ensures.used in
      finds-by _ _ _ c.read_change.result
      (λ (answer : Result Changed Sw) (is : change_at (committed c.find_subject.new.store) x c.args.change e ≡ answer).
      found-is m c.requires.card.kept.card x c.requires.card.kept.current c.args.change c.args.subject e used place
      answer
      (sym is ∙ ap (λ (l : List ℕ). change_at l x c.args.change e) same))
      c.read_change.ensures.told;
  store = reads_on _ _ _ _ c.find_subject.ensures.found.store.only c.read_change.ensures.store;
}

pub read_change-requires-clause-kept : goal.read_change-requires-clause-kept
read_change-requires-clause-kept g c =
    kept_still c.args.store.now c.find_subject.new.store c.args.current.now c.find_subject.ensures.found.store.only
    c.in_ok-number.ensures.found.store.ready c.requires.card.kept

pub read_change-requires-clause-used : goal.read_change-requires-clause-used
read_change-requires-clause-used g c =
    used_still c.args.store.now c.find_subject.new.store c.in-Some.number c.find_subject.ensures.found.store.only
    (subst (λ (o : Option ℕ). IfSome o (IsUsed (table (committed c.args.store.now)))) c.in-Some.is
    c.in_ok-number.ensures.used)

pub returns-in_default : goal.returns-in_default
returns-in_default g c = record {
  told = let m = committed c.args.store.now in
      let t = table m in
      let x = c.args.current.now in
      change-missed (card_of m) (session_of t x) c.args.change c.args.subject
      (changed-found m c.requires.card.kept.card x c.requires.card.kept.current c.args.change
      c.current_changed-own.result
      c.current_changed-own.ensures c.args.subject c.in_ok-number.field-0 c.in_ok-number.ensures.found.told ∙ ap (λ
      (found : Option ℕ). option_map (path_of t) found) c.in_default.is)
      ∙ ap (λ (status : Sw). Some status) (sym c.no_subject.ensures);
  store = c.in_ok-number.ensures.found.store;
}

pub find_subject-requires-clause-own : goal.find_subject-requires-clause-own
find_subject-requires-clause-own g c =
    let t = table (committed c.args.store.now) in
    subst (λ (own : Option ℕ). IfSome own (IsUsed t)) (sym c.current_changed-own.ensures)
    (current-there t c.args.current.now c.requires.card.kept.current c.args.change)

pub returns-in_err-number : goal.returns-in_err-number
returns-in_err-number g c = record {
  told = finds-stopped _ (Failed c.in_err-number.field-0.0) c.from_residual.ensures.1 _ _ tt;
  store = reads-stopped _ (Failed c.in_err-number.field-0.0) c.from_residual.ensures.1 _ _
      c.in_err-number.ensures.found.store;
}
