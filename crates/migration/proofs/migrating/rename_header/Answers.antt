use Rattle.std.specs.Prelude.{ℕ, List, slice_set}
use Rattle.std.proofs.Common.{arith, ap, ◌∙◌}
use Rattle.std.proofs.lemmas.Result.{on_ok_weaker}
use Rattle.nvm_board.specs.Facts.{address}
use Rattle.undo_journal.specs.Memory.{current}
use Rattle.undo_journal.specs.Lent.{memory_of}
use Rattle.undo_journal.specs.laws.Calls.{sets_then}
use Rattle.undo_journal.specs.laws.Told.{sets_in_on, sets_in_within, sets_in_handed}
use Rattle.block_chain.specs.declared.layout.TheConstants.{HEADER_PAGE}
use Rattle.file_tree.specs.declared.layout.TheConstants.{MARK, MARK_WORD, PAGES_WORD}
use Rattle.migration.proofs.Sets.{header_set}
use Rattle.migration.proofs.Costs.{first_waits, pages_wait, pages_spend, header_counts, header_spends}
use Rattle.migration.proofs.migrating.rename_header.Goals as goal

pub returns-in_err-set_first-clause-store : goal.returns-in_err-set_first-clause-store
returns-in_err-set_first-clause-store g c =
    sets_in_handed _ _ _ _ _ c.from_residual.ensures.1
    (sets_in_within 1 3 _ _ _ (omega arith) c.in_err-set_first.ensures.store)

pub returns-in_err-set-clause-store : goal.returns-in_err-set-clause-store
returns-in_err-set-clause-store g c =
    sets_in_handed _ _ _ _ _ c.from_residual-in_err-set.ensures.1
    (sets_in_on 1 1 3 _ _ _ _ (omega arith) c.set_first.ensures.store.sets c.in_err-set.ensures.store)

pub returns-clause-store : goal.returns-clause-store
returns-clause-store g c =
    sets_in_on 2 1 3 _ _ _ _ (omega arith)
    (sets_then 1 1 2 _ _ _ (omega arith) c.set_first.ensures.store.sets c.set.ensures.store.sets) c.set-2.ensures.store

pub returns-clause-done : goal.returns-clause-done
returns-clause-done g c =
    let m = current (memory_of c.args.txn.now) in
    let mid = current (memory_of c.set_first.new.txn) in
    on_ok_weaker c.set-2.result
    (λ done. header_set c.args.end m mid _ c.requires.ready.current_size c.in_ok-set_first.ensures.done
    (done ∙ ap (λ (l : List ℕ). slice_set l (address HEADER_PAGE MARK_WORD) MARK)
    (c.in_ok-set.ensures.done ∙ ap (λ (w : ℕ). slice_set mid (address HEADER_PAGE PAGES_WORD) w) c.from.ensures)))
    c.set-2.ensures.done

pub returns-clause-counted : goal.returns-clause-counted
returns-clause-counted g c =
    let first = memory_of c.set_first.new.txn in
    let paged = memory_of c.set.new.self in
    on_ok_weaker c.set-2.result
    (λ joins none. header_counts c.from.result (memory_of c.args.txn.now) paged _
    (pages_wait c.from.result (memory_of c.args.txn.now) first paged
    (first_waits c.args.end _ first none c.in_ok-set_first.ensures.joins) c.in_ok-set.ensures.joins) joins)
    c.set-2.ensures.joins

pub returns-in_err-set-clause-spends : goal.returns-in_err-set-clause-spends
returns-in_err-set-clause-spends g c = λ none.
    let first = memory_of c.set_first.new.txn in
    pages_spend c.from.result (memory_of c.args.txn.now) first (memory_of c.set.new.self)
    (first_waits c.args.end _ first none c.in_ok-set_first.ensures.joins) c.in_err-set.ensures.spends

pub returns-clause-spends : goal.returns-clause-spends
returns-clause-spends g c = λ none.
    let first = memory_of c.set_first.new.txn in
    let paged = memory_of c.set.new.self in
    header_spends c.from.result (memory_of c.args.txn.now) paged (memory_of c.set-2.new.self)
    (pages_wait c.from.result (memory_of c.args.txn.now) first paged
    (first_waits c.args.end _ first none c.in_ok-set_first.ensures.joins)
    c.in_ok-set.ensures.joins) c.set-2.ensures.spends

pub set_first-requires : goal.set_first-requires
set_first-requires g c = record {
  ready = c.requires.ready;
  enough = omega (arith, c.requires.enough);
}
