use Rattle.std.proofs.Common.{◌≡◌, ◌*◌, ℕ, List, slice_set, sym, ◌∙◌, ap, ap₂, subst, refl, arith}
use Rattle.nvm_board.specs.Facts.{address}
use Rattle.nvm_board.specs.declared.board.TheConstants.{PAGE_WORDS}
use Rattle.undo_journal.specs.Memory.{current}
use Rattle.undo_journal.specs.Lent.{memory_of}
use Rattle.undo_journal.specs.laws.Exits.{none_ok, on_then}
use Rattle.undo_journal.specs.laws.Told.{sets_in_handed, sets_in_on, sets_in_within}
use Rattle.block_chain.specs.ChainChanges.{Takes}
use Rattle.block_chain.specs.declared.layout.TheConstants.{FREE_HEAD_WORD, HEADER_PAGE}
use Rattle.block_store.proofs.Taking.{takes}
use Rattle.block_store.proofs.free.take.Goals as goal

pub returns-clause-store : goal.returns-clause-store
returns-clause-store g c =
    sets_in_on 1 1 2 _ _ _ _ (omega arith) c.set.ensures.store.sets c.set-2.ensures.store

pub returns-clause-done : goal.returns-clause-done
returns-clause-done g c =
    let m = current (memory_of c.args.txn.now) in
    let run = c.args.run in
    let found = c.requires.blocks.first in
    let first : current (memory_of c.set.new.self) ≡ slice_set m (address run.chain.last 0) 0 =
    let at : PAGE_WORDS * run.chain.last ≡ address run.chain.last 0 = omega arith in
    c.in_ok-set.ensures.done ∙ ap (λ (k : ℕ). slice_set m k 0) at in
    let family : List ℕ → Type 0 = λ l. Takes m c.args.n run.chain l in
    on_then _ _ c.set-2.result
    (λ done. subst family (sym (done ∙ ap₂ (λ (l : List ℕ) (w : ℕ). slice_set l (address HEADER_PAGE FREE_HEAD_WORD) w)
    first c.from.ensures))
    (takes m c.args.n run.chain.last run.rest c.requires.room.ready.current_size c.requires.blocks.free
    c.requires.blocks.some
    c.requires.blocks.enough found.last found.after run.chain found.first refl))
    c.set-2.ensures.done

pub returns-in_err-set-clause-done : goal.returns-in_err-set-clause-done
returns-in_err-set-clause-done g c = none_ok _ _ _ c.from_residual.ensures.1

pub returns-in_err-set-clause-store : goal.returns-in_err-set-clause-store
returns-in_err-set-clause-store g c =
    sets_in_handed 2 _ _ _ _ c.from_residual.ensures.1
    (sets_in_within 1 2 _ _ _ (omega arith) c.in_err-set.ensures.store)
