use Rattle.std.proofs.Common.{◌≡◌, slice_set, sym, ◌∙◌, arith}
use Rattle.undo_journal.specs.Lent.{memory_of}
use Rattle.undo_journal.specs.laws.Endings.{ends, ends_answered, ends_by_gate, ends_done, ends_turned}
use Rattle.file_changes.proofs.life_cycles.commit_word.Goals as goal

pub returns-clause-any_exit : goal.returns-clause-any_exit
returns-clause-any_exit g c =
    let set = c.set-work.ensures in
    let last = c.store-1.given.1 (sym (set.store.sets.same_store ∙ c.begin-txn.ensures.same_store)) in
    ends (λ m after. after ≡ slice_set m c.args.at c.args.word) _ c.set-work.result _ _ (memory_of c.set-work.new.self)
    _ _ c.begin-txn.ensures.same last c.requires.ready set.store.sets.kept set.done c.end.ensures.any_exit

pub returns-clause-done : goal.returns-clause-done
returns-clause-done g c =
    let set = c.set-work.ensures in
    let last = c.store-1.given.1 (sym (set.store.sets.same_store ∙ c.begin-txn.ensures.same_store)) in
    ends_done (λ m after. after ≡ slice_set m c.args.at c.args.word)
    c.set-work.result c.end.result _ _ (memory_of c.set-work.new.self) _ _ c.begin-txn.ensures.same last
    c.requires.ready set.done c.end.ensures.answered c.end.ensures.done

pub returns-clause-by_gate : goal.returns-clause-by_gate
returns-clause-by_gate g c =
    let set = c.set-work.ensures in
    let last = c.store-1.given.1 (sym (set.store.sets.same_store ∙ c.begin-txn.ensures.same_store)) in
    ends_by_gate _ _ _ _ (memory_of c.set-work.new.self) _ _ c.begin-txn.ensures.same last set.store.sets.kept
    c.end.ensures.any_exit

pub returns-clause-turned : goal.returns-clause-turned
returns-clause-turned g c =
    let set = c.set-work.ensures in
    let last = c.store-1.given.1 (sym (set.store.sets.same_store ∙ c.begin-txn.ensures.same_store)) in
    ends_turned (λ m after. after ≡ slice_set m c.args.at c.args.word)
    c.set-work.result _ _ (memory_of c.set-work.new.self) _ _ c.begin-txn.ensures.same last c.requires.ready
    set.store.sets.rises set.done set.store.tells c.end.ensures.store.reports c.end.ensures.turned

pub returns-clause-store : goal.returns-clause-store
returns-clause-store g c =
    let set = c.set-work.ensures in
    let last = c.store-1.given.1 (sym (set.store.sets.same_store ∙ c.begin-txn.ensures.same_store)) in
    ends_answered 1 1 4 c.set-work.result c.end.result _ _ (memory_of c.set-work.new.self) _ _ (omega arith)
    c.begin-txn.ensures.same last c.requires.ready set.store.sets.taken set.store.sets.reports set.store.sets.writes
    set.store.tells c.end.ensures.store c.end.ensures.answered
