use Rattle.std.proofs.Common.{◌+◌, List, length, sym, ◌∙◌, subst, arith}
use Rattle.undo_journal.specs.Memory.{Memory, IsOpen}
use Rattle.undo_journal.specs.Lent.{memory_of}
use Rattle.undo_journal.specs.laws.Endings.{ends, ends_answered, ends_by_gate, ends_done, ends_turned}
use Rattle.file_tree.specs.declared.layout.TheConstants.{DELETE_WRITES}
use Rattle.file_tree.specs.declared.entry.Entry.{Entry}
use Rattle.file_changes.specs.DeletionParts.{GoesWith, Removes}
use Rattle.file_changes.proofs.deleting.remove.Goals as goal

pub returns-clause-any_exit : goal.returns-clause-any_exit
returns-clause-any_exit g c =
    let set = c.take_away-work.ensures in
    let last = c.store-1.given.1 (sym (set.store.sets.same_store ∙ c.begin-txn.ensures.same_store)) in
    ends (λ m after. (part : List Entry) → GoesWith c.args.marks.now part → Removes m part c.args.chains.now after)
    _ c.take_away-work.result _ _ (memory_of c.take_away-work.new.txn) _ _ c.begin-txn.ensures.same last
    c.requires.ready set.store.sets.kept set.done c.end.ensures.any_exit

pub returns-clause-done : goal.returns-clause-done
returns-clause-done g c =
    let set = c.take_away-work.ensures in
    let last = c.store-1.given.1 (sym (set.store.sets.same_store ∙ c.begin-txn.ensures.same_store)) in
    ends_done
    (λ m after. (part : List Entry) → GoesWith c.args.marks.now part → Removes m part c.args.chains.now after)
    c.take_away-work.result
    c.end.result _ _ (memory_of c.take_away-work.new.txn) _ _ c.begin-txn.ensures.same last
    c.requires.ready set.done c.end.ensures.answered c.end.ensures.done

pub returns-clause-by_gate : goal.returns-clause-by_gate
returns-clause-by_gate g c =
    let set = c.take_away-work.ensures in
    let last = c.store-1.given.1 (sym (set.store.sets.same_store ∙ c.begin-txn.ensures.same_store)) in
    ends_by_gate _ _ _ _ (memory_of c.take_away-work.new.txn) _ _ c.begin-txn.ensures.same last set.store.sets.kept
    c.end.ensures.any_exit

pub returns-clause-turned : goal.returns-clause-turned
returns-clause-turned g c =
    let set = c.take_away-work.ensures in
    let last = c.store-1.given.1 (sym (set.store.sets.same_store ∙ c.begin-txn.ensures.same_store)) in
    ends_turned
    (λ m after. (part : List Entry) → GoesWith c.args.marks.now part → Removes m part c.args.chains.now after)
    c.take_away-work.result _ _ (memory_of c.take_away-work.new.txn) _ _ c.begin-txn.ensures.same last
    c.requires.ready set.store.sets.rises set.done set.store.tells c.end.ensures.store.reports c.end.ensures.turned

pub returns-clause-store : goal.returns-clause-store
returns-clause-store g c =
    let set = c.take_away-work.ensures in
    let last = c.store-1.given.1 (sym (set.store.sets.same_store ∙ c.begin-txn.ensures.same_store)) in
    ends_answered (64 + (length c.args.chains.now + 1)) (64 + (length c.args.chains.now + 1)) DELETE_WRITES
    c.take_away-work.result c.end.result _ _ (memory_of c.take_away-work.new.txn) _ _ (omega (arith, c.requires.few))
    c.begin-txn.ensures.same last c.requires.ready set.store.sets.taken set.store.sets.reports set.store.sets.writes
    set.store.tells c.end.ensures.store c.end.ensures.answered

pub take_away-work-requires-clause-room : goal.take_away-work-requires-clause-room
take_away-work-requires-clause-room g c = record {
  ready = subst (λ (m : Memory). IsOpen m) (sym c.begin-txn.ensures.same) c.requires.ready.usable;
  enough = omega (arith, c.begin-txn.ensures.room, c.requires.few);
}
