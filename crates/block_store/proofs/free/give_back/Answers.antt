use Rattle.std.proofs.Common.{rules, ◌≡◌, ℕ, List, length, slice_set, refl, sym, ◌∙◌, subst, arith}
use Rattle.std.proofs.lemmas.Result.{on_ok_weaker}
use Rattle.nvm_board.specs.Facts.{address}
use Rattle.undo_journal.specs.Memory.{current}
use Rattle.undo_journal.specs.Lent.{memory_of}
use Rattle.undo_journal.specs.laws.Exits.{none_ok}
use Rattle.undo_journal.specs.laws.Told.{sets_in_on, sets_in_handed, sets_in_within}
use Rattle.block_chain.specs.ChainChanges.{GivesBack}
use Rattle.block_chain.specs.ChainParts.{first_block, joined_chains}
use Rattle.block_chain.specs.declared.layout.TheConstants.{HEADER_PAGE}
use Rattle.block_store.proofs.Giving.{gives_back, gives_none}
use Rattle.undo_journal.specs.laws.Calls.{reads_same, reads_sets}
use Rattle.block_store.proofs.free.give_back.Goals as goal
use Rattle.block_chain.specs.declared.layout.TheConstants.{FREE_HEAD_WORD}

pub returns-clause-done : goal.returns-clause-done
returns-clause-done g c =
    let m = current (memory_of c.args.txn.now) in
    let cs = c.args.chains.now in
    let page : c.from.result ≡ first_block m cs = c.from.ensures ∙ c.in_ok-page.ensures.page in
    let words : current (memory_of c.join_chains.new.txn) ≡ joined_chains m cs = c.in_ok-page.ensures.done in
    let family : List ℕ → Type 0 = λ l. GivesBack m cs l in
    on_ok_weaker c.set.result (λ
    (done : current (memory_of c.set.new.self) ≡ slice_set (current (memory_of c.join_chains.new.txn))
    (address HEADER_PAGE FREE_HEAD_WORD) c.from.result).
    let after : current (memory_of c.set.new.self) ≡ slice_set (joined_chains m cs) (address HEADER_PAGE FREE_HEAD_WORD)
    (first_block m cs) = done ∙ (λ i. slice_set (words i) (address HEADER_PAGE FREE_HEAD_WORD) (page i)) in
    subst family (sym after)
    (gives_back m cs c.requires.room.ready.current_size c.requires.free c.requires.apart)) c.set.ensures.done

pub returns-clause-store : goal.returns-clause-store
returns-clause-store g c =
    sets_in_on _ _ _ _ _ _ _ (omega arith) c.join_chains.ensures.store.sets c.set.ensures.store

pub returns-in_err-page-clause-done : goal.returns-in_err-page-clause-done
returns-in_err-page-clause-done g c = none_ok _ _ _ c.from_residual.ensures.1

pub returns-in_err-page-clause-store : goal.returns-in_err-page-clause-store
returns-in_err-page-clause-store g c =
    sets_in_handed _ _ _ _ _ c.from_residual.ensures.1
    (sets_in_within _ _ _ _ _ (omega arith) c.in_err-page.ensures.store)

pub returns-then-is_empty-clause-done : goal.returns-then-is_empty-clause-done
returns-then-is_empty-clause-done g c =
    let none : length c.args.chains.now ≡ 0 = search rules in
    gives_none (current (memory_of c.args.txn.now)) c.args.chains.now none c.requires.free

pub join_chains-requires-clause-room : goal.join_chains-requires-clause-room
join_chains-requires-clause-room g c = record {
  ready = c.requires.room.ready;
  enough = omega (arith, c.requires.room.enough);
}

pub returns-then-is_empty-clause-store : goal.returns-then-is_empty-clause-store
returns-then-is_empty-clause-store g c = record {
  sets = reads_sets _ _ _ (record { same_store = refl; reads = reads_same _ });
  ready = c.requires.room.ready;
  tells = c.requires.room.ready.works;
}
