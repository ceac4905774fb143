use Rattle.std.proofs.Common.{◌≡◌, ◌≢◌, ◌+◌, ◌-◌, ◌*◌, ℕ, List, length, slice_index}
use Rattle.std.proofs.Common.{true≢false, sym, ◌∙◌, ap, subst, arith}
use Rattle.nvm_board.specs.Facts.{address}
use Rattle.nvm_board.specs.declared.board.TheConstants.{PAGE_WORDS}
use Rattle.undo_journal.specs.Memory.{committed}
use Rattle.undo_journal.specs.laws.Calls.{reads_then, reads_same}
use Rattle.undo_journal.specs.laws.Exits.{none_ok}
use Rattle.undo_journal.specs.laws.Told.{reads_handed, reads_on, reads_so_far}
use Rattle.block_chain.specs.BlockWords.{link}
use Rattle.block_chain.specs.Chains.{pages_from}
use Rattle.block_chain.specs.laws.Walking.{pages_zero}
use Rattle.tree_check.proofs.Following.{IsFollowed, followed_none, followed_more, last_followed, followed_all}
use Rattle.tree_check.proofs.Following.{followed_ends, goes_on, goes_on_within}
use Rattle.tree_check.proofs.walk.walk_over.Goals as goal

pub loop-first-init : goal.loop-first-init
loop-first-init g c =
    let m = committed c.args.store.now in
    let none : 0 ≡ c.args.most - c.args.most = omega arith in
    record {
      ready = c.requires.pages.ready;
      reads = reads_same _;
      within = omega arith;
      walked = subst (λ (n : ℕ). IsFollowed c.args.end m c.args.first n c.args.first) none
          (followed_none c.args.end m c.args.first);
      last = subst (λ (n : ℕ). 0 ≡ slice_index (pages_from m n c.args.first) (n - 1)) none
          (sym (ap (λ (ps : List ℕ). slice_index ps 0) (pages_zero m c.args.first)));
    }

pub loop-first-preserved : goal.loop-first-preserved
loop-first-preserved g c =
    let m = committed c.args.store.now in
    let page = c.loop-first.page in
    let n : ℕ = c.args.most - c.loop-first.left in
    let invariant = c.loop-first.invariant in
    let within = invariant.within in
    let some = c.if-left-eq0.false in
    let fit = c.is_block_page.ensures.0 c.loop-first-test.true in
    let more : n + 1 ≡ c.args.most - (c.loop-first.left - 1) = omega (arith, within, some) in
    let there : page ≢ 0 = λ e. let least = fit.0 in let z : ⊥ = omega (arith, e, least) in z in
    let next : c.in_ok-page.page ≡ link m page =
    (let at : PAGE_WORDS * page ≡ address page 0 = omega arith in c.in_ok-page.ensures.word
    ∙ ap (λ (k : ℕ). slice_index (committed c.loop-first.store) k) at)
    ∙ ap (λ (l : List ℕ). link l page) invariant.reads.keeps.committed_words in
    record {
      ready = c.in_ok-page.ensures.store.ready;
      reads = reads_then _ _ _ invariant.reads c.read_committed.ensures.store.only;
      within = omega (arith, within);
      walked = subst (λ (k : ℕ). IsFollowed c.args.end m c.args.first k c.in_ok-page.page) more
          (subst (λ (p : ℕ). IsFollowed c.args.end m c.args.first (n + 1) p) (sym next)
          (followed_more c.args.end m c.args.first n page invariant.walked c.requires.pages.inside fit));
      last = subst (λ (k : ℕ). page ≡ slice_index (pages_from m k c.args.first) (k - 1)) more
          (last_followed c.args.end m c.args.first n page invariant.walked there);
    }

pub returns-then-left-eq0-clause-stale : goal.returns-then-left-eq0-clause-stale
returns-then-left-eq0-clause-stale g c = λ _ ends.
    let m = committed c.args.store.now in
    let page = c.loop-first.page in
    let n : ℕ = c.args.most - c.loop-first.left in
    let fit = c.is_block_page.ensures.0 c.loop-first-test.true in
    let there : page ≢ 0 = λ e. let least = fit.0 in let z : ⊥ = omega (arith, e, least) in z in
    let long = goes_on c.args.end m c.args.first n page c.loop-first.invariant.walked c.args.most ends there in
    let few = ends.few in
    let none = c.if-left-eq0.true in
    omega (arith, long, few, none)

pub returns-then-left-eq0-clause-store : goal.returns-then-left-eq0-clause-store
returns-then-left-eq0-clause-store g c = reads_so_far _ _ c.loop-first.invariant.reads c.loop-first.invariant.ready

pub returns-then-page-ne0-clause-stale : goal.returns-then-page-ne0-clause-stale
returns-then-page-ne0-clause-stale g c = λ _ ends.
    let m = committed c.args.store.now in
    let n : ℕ = c.args.most - c.loop-first.left in
    let fit = goes_on_within c.args.end m c.args.first n c.loop-first.page c.loop-first.invariant.walked c.args.most
    ends c.if-page-ne0.true in
    true≢false (sym (c.is_block_page.ensures.1 fit) ∙ c.loop-first-test.false)

pub returns-then-page-ne0-clause-walked : goal.returns-then-page-ne0-clause-walked
returns-then-page-ne0-clause-walked g c = tt

pub returns-then-page-ne0-clause-store : goal.returns-then-page-ne0-clause-store
returns-then-page-ne0-clause-store g c = reads_so_far _ _ c.loop-first.invariant.reads c.loop-first.invariant.ready

pub returns-clause-walked : goal.returns-clause-walked
returns-clause-walked g c =
    let m = committed c.args.store.now in
    let n : ℕ = c.args.most - c.loop-first.left in
    let none : c.loop-first.page ≡ 0 = c.if-page-ne0.false in
    let limit = c.requires.most in
    let invariant = c.loop-first.invariant in
    let all = followed_all c.args.end m c.args.first n c.loop-first.page invariant.walked (omega (arith, limit)) none in
    record {
      ends = followed_ends c.args.end m c.args.first n c.loop-first.page invariant.walked c.args.most limit
          (omega arith) none;
      blocks = sym (ap (λ (ps : List ℕ). length ps) all ∙ invariant.walked.long);
      last = invariant.last ∙ sym (ap (λ (ps : List ℕ). slice_index ps (n - 1)) all);
    }

pub returns-clause-store : goal.returns-clause-store
returns-clause-store g c = reads_so_far _ _ c.loop-first.invariant.reads c.loop-first.invariant.ready

pub returns-in_err-page-clause-walked : goal.returns-in_err-page-clause-walked
returns-in_err-page-clause-walked g c = none_ok _ _ _ c.from_residual.ensures.1

pub returns-in_err-page-clause-stale : goal.returns-in_err-page-clause-stale
returns-in_err-page-clause-stale g c = none_ok _ _ _ c.from_residual.ensures.1

pub returns-in_err-page-clause-store : goal.returns-in_err-page-clause-store
returns-in_err-page-clause-store g c =
    reads_handed _ _ _ _ c.from_residual.ensures.1 (reads_on _ _ _ _ c.loop-first.invariant.reads
    c.in_err-page.ensures.store)

pub overflow_cast-last : goal.overflow_cast-last
overflow_cast-last g c =
    let block = c.is_block_page.ensures.0 c.loop-first-test.true in
    let most = c.requires.pages.ready.usable.committed_size.most in
    omega (arith, block.1, c.requires.pages.inside, most)

pub overflow_mul-last : goal.overflow_mul-last
overflow_mul-last g c =
    let block = c.is_block_page.ensures.0 c.loop-first-test.true in
    let most = c.requires.pages.ready.usable.committed_size.most in
    omega (arith, block.1, c.requires.pages.inside, most)
