use Rattle.undo_journal.specs.laws.Transactions.{by_gate_after, reads_turn, turns_after}
use Rattle.undo_journal.specs.laws.Exits.{none_ok}
use Rattle.std.proofs.Common.{◌≡◌, ℕ, List, ◌∙◌, inl, inr, ⊎_elim, rules, arith}
use Rattle.undo_journal.specs.Memory.{committed}
use Rattle.file_tree.specs.declared.entry.Entry.{Entry}
use Rattle.file_changes.specs.DeletionParts.{part_below, GoesWith, Removes}
use Rattle.file_tree.specs.Table.{table}
use Rattle.file_tree.specs.TreeChanges.{Deletes}
use Rattle.file_changes.specs.laws.Removals.{can_give, removed_deletes, removed_space}
use Rattle.undo_journal.specs.laws.Told.{changes_after, reads_change, changes_handed}
use Rattle.file_changes.proofs.deleting.delete.Goals as goal

pub returns-in_err-remove-clause-any_exit : goal.returns-in_err-remove-clause-any_exit
returns-in_err-remove-clause-any_exit g c =
    let m = committed c.args.store.now in
    let sized = c.requires.file.file.ready.usable.committed_size in
    let read = c.removal_of.ensures.store.only.keeps.committed_words in
    let after = committed c.remove.new.store in
    ⊎_elim
    (λ (kept : after ≡ committed c.removal_of.new.store). inl (kept ∙ read))
    (λ (removes : (part : List Entry) → GoesWith c.in_ok-removal.removal.goes part
    → Removes (committed c.removal_of.new.store) part c.as_slice.result.now after).
    inr (removed_deletes m _ c.args.e sized c.requires.file.file.tree c.requires.file.below c.requires.file.file.used
    _ c.in_ok-removal.ensures.told read _ c.as_slice.ensures.value after
    (removes _ c.in_ok-removal.ensures.told.goes)))
    c.remove.ensures.any_exit

pub returns-clause-done : goal.returns-clause-done
returns-clause-done g c =
    let m = committed c.args.store.now in
    let sized = c.requires.file.file.ready.usable.committed_size in
    let read = c.removal_of.ensures.store.only.keeps.committed_words in
    removed_deletes m _ c.args.e sized c.requires.file.file.tree c.requires.file.below
    c.requires.file.file.used _ c.in_ok-removal.ensures.told read _ c.as_slice.ensures.value _
    (c.in_ok-remove.ensures.done _ c.in_ok-removal.ensures.told.goes)

pub returns-clause-any_exit : goal.returns-clause-any_exit
returns-clause-any_exit g c =
    let m = committed c.args.store.now in
    let sized = c.requires.file.file.ready.usable.committed_size in
    let read = c.removal_of.ensures.store.only.keeps.committed_words in
    inr (removed_deletes m _ c.args.e sized c.requires.file.file.tree c.requires.file.below
    c.requires.file.file.used _ c.in_ok-removal.ensures.told read _ c.as_slice.ensures.value _
    (c.in_ok-remove.ensures.done _ c.in_ok-removal.ensures.told.goes))

pub returns-clause-space : goal.returns-clause-space
returns-clause-space g c =
    let m = committed c.args.store.now in
    let sized = c.requires.file.file.ready.usable.committed_size in
    let read = c.removal_of.ensures.store.only.keeps.committed_words in
    removed_space m _ c.args.e sized c.requires.file.file.tree c.requires.file.below c.requires.file.file.used _
    c.in_ok-removal.ensures.told
    read _ c.as_slice.ensures.value _ (c.in_ok-remove.ensures.done _ c.in_ok-removal.ensures.told.goes)

pub returns-in_err-removal-clause-any_exit : goal.returns-in_err-removal-clause-any_exit
returns-in_err-removal-clause-any_exit g c = inl c.removal_of.ensures.store.only.keeps.committed_words

pub returns-in_err-removal-clause-done : goal.returns-in_err-removal-clause-done
returns-in_err-removal-clause-done g c = none_ok _ _ _ c.from_residual.ensures.1

pub returns-in_err-removal-clause-space : goal.returns-in_err-removal-clause-space
returns-in_err-removal-clause-space g c = none_ok _ _ _ c.from_residual.ensures.1

pub returns-in_err-removal-clause-store : goal.returns-in_err-removal-clause-store
returns-in_err-removal-clause-store g c =
    changes_handed _ _ _ _ _ c.from_residual.ensures.1
    (reads_change _ _ _ _ c.requires.file.file.ready.idle c.in_err-removal.ensures.store)

pub returns-in_err-remove-clause-done : goal.returns-in_err-remove-clause-done
returns-in_err-remove-clause-done g c = none_ok _ _ _ c.from_residual-in_err-remove.ensures.1

pub returns-in_err-remove-clause-space : goal.returns-in_err-remove-clause-space
returns-in_err-remove-clause-space g c = none_ok _ _ _ c.from_residual-in_err-remove.ensures.1

pub returns-in_err-remove-clause-store : goal.returns-in_err-remove-clause-store
returns-in_err-remove-clause-store g c =
    changes_handed _ _ _ _ _ c.from_residual-in_err-remove.ensures.1
    (changes_after _ _ _ _ _ c.removal_of.ensures.store.only c.in_err-remove.ensures.store)

pub returns-clause-store : goal.returns-clause-store
returns-clause-store g c =
    changes_after _ _ _ _ _ c.removal_of.ensures.store.only c.in_ok-remove.ensures.store

pub returns-in_err-removal-clause-by_gate : goal.returns-in_err-removal-clause-by_gate
returns-in_err-removal-clause-by_gate g c = inl c.removal_of.ensures.store.only.keeps.committed_words

pub returns-in_err-remove-clause-by_gate : goal.returns-in_err-remove-clause-by_gate
returns-in_err-remove-clause-by_gate g c =
    by_gate_after c.args.store.now c.removal_of.new.store c.remove.new.store
    c.removal_of.ensures.store.only.keeps.committed_words c.remove.ensures.by_gate

pub returns-clause-by_gate : goal.returns-clause-by_gate
returns-clause-by_gate g c =
    by_gate_after c.args.store.now c.removal_of.new.store c.remove.new.store
    c.removal_of.ensures.store.only.keeps.committed_words c.remove.ensures.by_gate

pub returns-in_err-removal-clause-turned : goal.returns-in_err-removal-clause-turned
returns-in_err-removal-clause-turned g c =
    reads_turn (λ after. Deletes (committed c.args.store.now) c.args.e after) _ _ c.removal_of.ensures.store.only

pub returns-in_err-remove-clause-turned : goal.returns-in_err-remove-clause-turned
returns-in_err-remove-clause-turned g c =
    let m = committed c.args.store.now in
    let removes : List ℕ → Type 0 = λ after. (part : List Entry) → GoesWith c.in_ok-removal.removal.goes part
    → Removes (committed c.removal_of.new.store) part c.as_slice.result.now after in
    let sized = c.requires.file.file.ready.usable.committed_size in
    let read = c.removal_of.ensures.store.only.keeps.committed_words in
    turns_after removes (λ after. Deletes m c.args.e after) c.args.store.now c.removal_of.new.store
    c.remove.new.store c.removal_of.ensures.store.only
    (λ (parts : removes (committed c.remove.new.store)). removed_deletes m _ c.args.e sized c.requires.file.file.tree
    c.requires.file.below c.requires.file.file.used _ c.in_ok-removal.ensures.told read _ c.as_slice.ensures.value _
    (parts _ c.in_ok-removal.ensures.told.goes)) c.remove.ensures.turned

pub returns-clause-turned : goal.returns-clause-turned
returns-clause-turned g c =
    let m = committed c.args.store.now in
    let removes : List ℕ → Type 0 = λ after. (part : List Entry) → GoesWith c.in_ok-removal.removal.goes part
    → Removes (committed c.removal_of.new.store) part c.as_slice.result.now after in
    let sized = c.requires.file.file.ready.usable.committed_size in
    let read = c.removal_of.ensures.store.only.keeps.committed_words in
    turns_after removes (λ after. Deletes m c.args.e after) c.args.store.now c.removal_of.new.store
    c.remove.new.store c.removal_of.ensures.store.only
    (λ (parts : removes (committed c.remove.new.store)). removed_deletes m _ c.args.e sized c.requires.file.file.tree
    c.requires.file.below c.requires.file.file.used _ c.in_ok-removal.ensures.told read _ c.as_slice.ensures.value _
    (parts _ c.in_ok-removal.ensures.told.goes)) c.remove.ensures.turned

pub returns-clause-index : goal.returns-clause-index
returns-clause-index g c =
    c.without.ensures.deleted (committed c.args.store.now) (committed c.remove.new.store) c.requires.file.file.tree
    c.requires.file.below c.requires.file.file.used (returns-clause-done g c) c.requires.index

pub removal_of-requires : goal.removal_of-requires
removal_of-requires g c = record { file = c.requires.file }

pub remove-requires : goal.remove-requires
remove-requires g c = record {
  ready = c.in_ok-removal.ensures.store.ready;
  apart = let m = committed c.args.store.now in
      let sized = c.requires.file.file.ready.usable.committed_size in
      let read = c.removal_of.ensures.store.only.keeps.committed_words in (
        part_below (table m) c.args.e,
        c.in_ok-removal.ensures.told.goes,
        can_give m _ c.args.e sized c.requires.file.file.tree c.requires.file.below c.requires.file.file.used _
            c.in_ok-removal.ensures.told read _ c.as_slice.ensures.value,
      );
  few = search (rules, arith);
}
