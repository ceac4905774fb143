use Rattle.std.proofs.Common.{◌≡◌, ◌+◌, ◌-◌, ◌*◌, ◌<◌, ◌≤◌, ℕ, List, [], ◌∷◌, length, drop, slice_set, slice_index_or}
use Rattle.std.proofs.Common.{sym, ◌∙◌, ap, inr, arith}
use Rattle.std.proofs.lemmas.List.{drop_more}
use Rattle.std.proofs.Math.Seq.{drop-length}
use Rattle.nvm_board.specs.Facts.{address}
use Rattle.undo_journal.specs.Memory.{current}
use Rattle.undo_journal.specs.Lent.{memory_of}
use Rattle.undo_journal.specs.laws.Calls.{reads_sets, sets_then}
use Rattle.block_chain.specs.ChainParts.{first_block, joined_chains}
use Rattle.block_chain.specs.declared.chain.Chain.{Chain}
use Rattle.block_chain.specs.laws.Chains.{head_small}
use Rattle.block_chain.specs.laws.Joining.{joined-nil, joined-cons, length-joined, whole_block}
use Rattle.undo_journal.specs.laws.Exits.{none_ok}
use Rattle.undo_journal.specs.laws.Told.{sets_in_handed}
use Rattle.block_store.proofs.free.join_chains.Goals as goal
use Rattle.nvm_board.specs.declared.board.TheConstants.{PAGE_WORDS}

pub loop-left-init : goal.loop-left-init
loop-left-init g c =
    let m = current (memory_of c.args.txn.now) in
    let none : drop (length c.args.chains.now) c.args.chains.now ≡ [] = drop-length c.args.chains.now in
    record {
      within = omega arith;
      ready = c.in_ok-page.ensures.store.ready;
      sets = reads_sets _ _ _ c.head.ensures.store.only;
      page = c.in_ok-page.ensures.page ∙ sym (ap (first_block m) none);
      words = c.head.ensures.store.only.reads.keeps.current_words ∙ sym (ap (joined_chains m) none ∙ joined-nil m);
    }

pub overflow_mul-chain : goal.overflow_mul-chain
overflow_mul-chain g c =
    let m = current (memory_of c.args.txn.now) in
    let lt : c.loop-left.left - 1 < length c.args.chains.now =
    omega (arith, c.loop-left.invariant.within, c.loop-left-test.true) in
    let block = whole_block m _ (c.requires.apart.each (c.loop-left.left - 1) (record { first = 0; last = 0 }) lt) in
    omega (arith, block.1)

pub set-requires-clause-place : goal.set-requires-clause-place
set-requires-clause-place g c =
    let m = current (memory_of c.args.txn.now) in
    let lt : c.loop-left.left - 1 < length c.args.chains.now =
    omega (arith, c.loop-left.invariant.within, c.loop-left-test.true) in
    let block = whole_block m _ (c.requires.apart.each (c.loop-left.left - 1) (record { first = 0; last = 0 }) lt) in
    let size = c.requires.room.ready.current_size in
    let same = ap (λ (l : List ℕ). length l) c.loop-left.invariant.words
    ∙ length-joined m (drop c.loop-left.left c.args.chains.now) in
    (inr (omega (arith, block.0)), omega (arith, block.1, size, same))

pub loop-left-preserved : goal.loop-left-preserved
loop-left-preserved g c =
    let m = current (memory_of c.args.txn.now) in
    let cs = c.args.chains.now in
    let left = c.loop-left.left in
    let d : Chain = record { first = 0; last = 0 } in
    let lt : left - 1 < length cs = omega (arith, c.loop-left.invariant.within, c.loop-left-test.true) in
    let back : left - 1 + 1 ≡ left = omega (arith, c.loop-left-test.true) in
    let fits : length cs - left + 1 ≤ length cs - (left - 1) =
    omega (arith, c.loop-left.invariant.within, c.loop-left-test.true) in
    let more : drop (left - 1) cs ≡ slice_index_or cs (left - 1) d ∷ drop left cs =
    drop_more cs (left - 1) d lt ∙ ap (λ (i : ℕ). slice_index_or cs (left - 1) d ∷ drop i cs) back in
    let at : PAGE_WORDS * (slice_index_or cs (left - 1) d).last ≡ address (slice_index_or cs (left - 1) d).last 0 =
    omega arith in
    let page : c.from.result ≡ first_block m (drop left cs) = c.from.ensures ∙ c.loop-left.invariant.page in
    record {
      within = omega (arith, lt);
      ready = c.in_ok-set.ensures.store.ready;
      sets = sets_then _ _ _ _ _ _ fits c.loop-left.invariant.sets c.set.ensures.store.sets;
      page = sym (ap (first_block m) more);
      words = c.in_ok-set.ensures.done
          ∙ (λ i. slice_set (c.loop-left.invariant.words i) (at i) (page i))
          ∙ sym (ap (joined_chains m) more ∙ joined-cons m _ _);
    }

pub returns-in_err-page-clause-page : goal.returns-in_err-page-clause-page
returns-in_err-page-clause-page g c = none_ok _ _ _ c.from_residual.ensures.1

pub returns-in_err-page-clause-done : goal.returns-in_err-page-clause-done
returns-in_err-page-clause-done g c = none_ok _ _ _ c.from_residual.ensures.1

pub returns-in_err-page-clause-store : goal.returns-in_err-page-clause-store
returns-in_err-page-clause-store g c =
    sets_in_handed _ _ _ _ _ c.from_residual.ensures.1 (record {
      ready = tt;
      tells = c.in_err-page.ensures.store.tells;
      sets = reads_sets _ _ _ c.head.ensures.store.only;
    })

pub returns-in_err-set-clause-page : goal.returns-in_err-set-clause-page
returns-in_err-set-clause-page g c = none_ok _ _ _ c.from_residual-in_err-set.ensures.1

pub returns-in_err-set-clause-done : goal.returns-in_err-set-clause-done
returns-in_err-set-clause-done g c = none_ok _ _ _ c.from_residual-in_err-set.ensures.1

pub returns-in_err-set-clause-store : goal.returns-in_err-set-clause-store
returns-in_err-set-clause-store g c =
    sets_in_handed _ _ _ _ _ c.from_residual-in_err-set.ensures.1 (record {
      ready = tt;
      sets = let fits : length c.args.chains.now - c.loop-left.left + 1 ≤ length c.args.chains.now =
          omega (arith, c.loop-left.invariant.within, c.loop-left-test.true) in
          sets_then _ _ _ _ _ _ fits c.loop-left.invariant.sets c.set.ensures.store.sets;
      tells = c.in_err-set.ensures.store.tells;
    })

pub head-requires : goal.head-requires
head-requires g c = record {
  ready = c.requires.room.ready;
  small = head_small _ _ _ c.requires.room.ready.current_size c.requires.free.leads;
}
