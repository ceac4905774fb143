use Rattle.std.proofs.Common.{◌≡◌, ◌≢◌, ◌+◌, ◌-◌, ◌<◌, ◌≤◌, ℕ, IsTrue, List, [], ◌++◌, Option}
use Rattle.std.proofs.Common.{Some, IfSome, length}
use Rattle.std.proofs.Common.{slice_index, slice_index_or, take, true≢false, refl, sym, ◌∙◌, ap, subst, arith}
use Rattle.std.proofs.lemmas.List.{length-replicate}
use Rattle.nvm_board.specs.declared.board.TheConstants.{MOST_PAGES}
use Rattle.undo_journal.specs.Memory.{committed}
use Rattle.undo_journal.specs.laws.Calls.{reads_then}
use Rattle.undo_journal.specs.laws.Exits.{none_ok}
use Rattle.undo_journal.specs.laws.Told.{reads_handed, reads_on, reads_so_far}
use Rattle.block_chain.specs.Chains.{free_chain, chain}
use Rattle.block_chain.specs.Counts.{count}
use Rattle.block_chain.specs.Layout.{IsExtent, laid_out}
use Rattle.block_chain.specs.declared.chain.Extent.{Extent}
use Rattle.block_chain.specs.declared.layout.TheConstants.{FIRST_BLOCK_PAGE, FREE_HEAD}
use Rattle.block_chain.specs.laws.Counts.{count-append}
use Rattle.block_chain.specs.laws.Laying.{AreLaidSoFar, laid_free, laid_more, laid_fresh, laid_all, laid_short}
use Rattle.block_chain.specs.laws.Laying.{laid_out-nil}
use Rattle.tree_check.specs.WalkParts.{EndsWithin, IsWalked}
use Rattle.tree_check.proofs.ChainEnds.{no_ends, blank_end}
use Rattle.tree_check.proofs.LaidEnds.{no_marks, no_mark, with_chain, with_chain_marks, with_chain_fine}
use Rattle.tree_check.proofs.LaidEnds.{free_unmarked, free_ends, unmarked, end_unmarked, more_counted, next_ends}
use Rattle.tree_check.proofs.LaidEnds.{last_small, fresh_end, end_fresh, walked_ends}
use Rattle.tree_check.specs.declared.walk.Walked.{Walked}
use Rattle.tree_check.proofs.walk.lay.Given.{Over}
use Rattle.tree_check.proofs.walk.lay.Goals as goal
use Rattle.tree_check.proofs.walk.lay.Goals.{then-not-is_extent-via-then-not-is_extent}
use Rattle.tree_check.proofs.walk.lay.Goals.{then-not-is_extent-via-else-not-is_extent+then-not-mark_end}

-- a walk from a page on, in the words before the reads
moved : (end most : ℕ) (m now : List ℕ) (from page : ℕ) (o : Option Walked) (w : Walked) → now ≡ m → page ≡ from
    → o ≡ Some w → IfSome o (IsWalked end most now page) → IsWalked end most m from w
moved end most m now from page o w same start is walked =
    let at_some : Option Walked → Type 0 = λ r. IfSome r (IsWalked end most now page) in
    subst (λ (p : ℕ). IsWalked end most m p w) start
    (subst (λ (l : List ℕ). IsWalked end most l page w) same (subst at_some is walked))

-- the free chain, after the header is read
head_is : (g : Over) (c : goal.In-None g) → c.in_ok-head.head ≡ slice_index (committed c.args.store.now) FREE_HEAD
head_is g c = c.in_ok-head.ensures.word ∙ ap (λ (l : List ℕ). slice_index l FREE_HEAD) (sym c.requires.ready.same)

pub walk_over-requires-clause-most : goal.walk_over-requires-clause-most
walk_over-requires-clause-most g c =
    let most = c.requires.ready.usable.committed_size.most in omega (arith, c.requires.inside, most)

pub walk_over-requires-in-loop-i-clause-most : goal.walk_over-requires-in-loop-i-clause-most
walk_over-requires-in-loop-i-clause-most g c =
    let most = c.requires.ready.usable.committed_size.most in omega (arith, c.requires.inside, most)

pub mark_end-requires : goal.mark_end-requires
mark_end-requires g c = λ some.
    let small = last_small _ _ _ _ c.in-Some.walked
    (moved (FIRST_BLOCK_PAGE + c.args.count) c.args.count (committed c.args.store.now) _
    (slice_index (committed c.args.store.now) FREE_HEAD) c.in_ok-head.head _ c.in-Some.walked
    c.read.ensures.reads.keeps.committed_words
    (c.in_ok-head.ensures.word ∙ ap (λ (l : List ℕ). slice_index l FREE_HEAD) (sym c.requires.ready.same))
    c.in-Some.is c.in_ok-walked.ensures.walked)
    c.requires.ready.usable.committed_size in
    let size = length-replicate {A = ℕ} 512 0 in
    omega (arith, small, size)

pub returns-in-None-clause-found : goal.returns-in-None-clause-found
returns-in-None-clause-found g c = λ laid.
    let m = committed c.args.store.now in
    let end : ℕ = FIRST_BLOCK_PAGE + c.args.count in
    let read = c.read.ensures.reads.keeps.committed_words in
    let stale = c.in_ok-walked.ensures.stale c.in-None.is in
    stale (subst (λ (l : List ℕ). EndsWithin end c.args.count l c.in_ok-head.head) (sym read)
    (subst (λ (p : ℕ). EndsWithin end c.args.count m p) (sym (head_is g c)) (free_ends c.args.count m
    c.args.extents.now laid)))

pub loop-i-init : goal.loop-i-init
loop-i-init g c =
    let m = committed c.args.store.now in
    let es = c.args.extents.now in
    let head : ℕ = slice_index m FREE_HEAD in
    let w =
    moved (FIRST_BLOCK_PAGE + c.args.count) c.args.count (committed c.args.store.now) _
    (slice_index (committed c.args.store.now) FREE_HEAD) c.in_ok-head.head _ c.in-Some.walked
    c.read.ensures.reads.keeps.committed_words
    (c.in_ok-head.ensures.word ∙ ap (λ (l : List ℕ). slice_index l FREE_HEAD) (sym c.requires.ready.same))
    c.in-Some.is c.in_ok-walked.ensures.walked in
    let most = c.requires.ready.usable.committed_size.most in
    let within : FIRST_BLOCK_PAGE + c.args.count ≤ MOST_PAGES = omega (arith, c.requires.inside, most) in
    let fresh = free_unmarked (FIRST_BLOCK_PAGE + c.args.count) c.args.count m w.ends in
    let yes = c.mark_end.ensures.fresh.1 (λ _. blank_end 512 c.in-Some.walked.last) in
    let none : (q : ℕ) → count q (free_chain m ++ laid_out m (take 0 es)) ≡ count q [] + count q (free_chain m) =
    λ q.
    let a = count-append q (free_chain m) (laid_out m (take 0 es)) in
    let b = ap (λ (ps : List ℕ). count q ps) (laid_out-nil m) in
    omega (arith, a, b) in
    record {
      ready = c.in_ok-walked.ensures.store.ready;
      reads = reads_then _ _ _ c.read.ensures.reads c.walk_over.ensures.store.only;
      in_range = omega arith;
      most = (let size = w.blocks in let few = w.ends.few in omega (arith, size, few));
      free = w.blocks;
      so_far = (
        with_chain no_marks (free_chain m),
        laid_free c.args.count m es no_marks
            (with_chain no_marks (free_chain m)) c.in-Some.walked.blocks fresh no_mark
            (with_chain_marks no_marks (free_chain m))
            (with_chain_fine (FIRST_BLOCK_PAGE + c.args.count) m no_marks head within fresh) w.blocks,
      );
      room = c.mark_end.ensures.size ∙ length-replicate {A = ℕ} 512 0;
      ends = walked_ends _ _ m head c.in-Some.walked w _ _ [] (free_chain m ++ laid_out m (take 0 es))
          (no_ends m 512) (c.mark_end.ensures.marks yes) none;
    }

pub mark_end-requires-else-not-is_extent : goal.mark_end-requires-else-not-is_extent
mark_end-requires-else-not-is_extent g c = λ some.
    let small = last_small _ _ _ _ c.in-Some-2.walked
    (moved (FIRST_BLOCK_PAGE + c.args.count) (c.args.count - c.loop-i.blocks) (committed c.args.store.now) _
    (slice_index_or c.args.extents.now c.loop-i._i
    (record { chain = record { first = 0; last = 0 }; blocks = 0 })).chain.first c.from.result _ c.in-Some-2.walked
    c.loop-i.invariant.reads.keeps.committed_words c.from.ensures c.in-Some-2.is c.in_ok-walked-2.ensures.walked)
    c.requires.ready.usable.committed_size in
    let room = c.loop-i.invariant.room in
    omega (arith, small, room)

pub returns-in-None-2-clause-found : goal.returns-in-None-2-clause-found
returns-in-None-2-clause-found g c = λ laid.
    let m = committed c.args.store.now in
    let es = c.args.extents.now in
    let end : ℕ = FIRST_BLOCK_PAGE + c.args.count in
    let left : ℕ = c.args.count - c.loop-i.blocks in
    let i = c.loop-i._i in
    let d : Extent = record { chain = record { first = 0; last = 0 }; blocks = 0 } in
    let e : Extent = slice_index_or es i d in
    let lt : i < length es = omega (arith, c.loop-i-test.true) in
    let from : c.from.result ≡ e.chain.first = c.from.ensures in
    let read = c.loop-i.invariant.reads.keeps.committed_words in
    let so_far = c.loop-i.invariant.so_far in
    let stale = c.in_ok-walked-2.ensures.stale c.in-None-2.is in
    let ends = next_ends c.args.count m es i so_far.0 c.loop-i.blocks c.loop-i.ends so_far.1 c.loop-i.invariant.ends
    e d lt refl laid in
    stale (subst (λ (l : List ℕ). EndsWithin end left l c.from.result) (sym read)
    (subst (λ (p : ℕ). EndsWithin end left m p) (sym from) ends))

pub loop-i-preserved : goal.loop-i-preserved
loop-i-preserved g c =
    let m = committed c.args.store.now in
    let es = c.args.extents.now in
    let i = c.loop-i._i in
    let d : Extent = record { chain = record { first = 0; last = 0 }; blocks = 0 } in
    let e : Extent = slice_index_or es i d in
    let lt : i < length es = omega (arith, c.loop-i-test.true) in
    let so_far = c.loop-i.invariant.so_far in
    let are = c.loop-i.invariant.ends in
    let w =
    moved (FIRST_BLOCK_PAGE + c.args.count) (c.args.count - c.loop-i.blocks) (committed c.args.store.now) _
    (slice_index_or c.args.extents.now c.loop-i._i
    (record { chain = record { first = 0; last = 0 }; blocks = 0 })).chain.first c.from.result _ c.in-Some-2.walked
    c.loop-i.invariant.reads.keeps.committed_words c.from.ensures c.in-Some-2.is c.in_ok-walked-2.ensures.walked in
    let yes : IsTrue c.is_extent.result = c.if-not-is_extent.false in
    let blocks : c.in-Some-2.walked.blocks ≡ e.blocks = (c.is_extent.ensures.0 yes).0 in
    let last : c.in-Some-2.walked.last ≡ e.chain.last = (c.is_extent.ensures.0 yes).1 in
    let new : IsTrue c.mark_end-else-not-is_extent.result = c.if-not-mark_end.false in
    let extent : IsExtent m e = record {
      leads = w.ends.leads;
      blocks = sym w.blocks ∙ blocks;
      last = sym last ∙ w.last ∙ ap (λ (k : ℕ). slice_index (chain m e.chain.first) (k - 1)) blocks;
    } in
    let size = c.requires.ready.usable.committed_size.most in
    let within : FIRST_BLOCK_PAGE + c.args.count ≤ MOST_PAGES = omega (arith, c.requires.inside, size) in
    let fresh = unmarked c.args.count m es i so_far.0 c.loop-i.blocks c.loop-i.ends so_far.1 are
    (c.args.count - c.loop-i.blocks) e.chain.first w.ends
    (fresh_end _ _ m e.chain.first c.in-Some-2.walked w c.loop-i.ends
    (c.mark_end-else-not-is_extent.ensures.fresh.0 new)) in
    let seen : List ℕ = with_chain so_far.0 (chain m e.chain.first) in
    let more = laid_more c.args.count m es i so_far.0 c.loop-i.blocks e d lt refl so_far.1 seen extent fresh
    (with_chain_marks so_far.0 (chain m e.chain.first))
    (with_chain_fine (FIRST_BLOCK_PAGE + c.args.count) m so_far.0 e.chain.first within fresh) in
    let count_family : ℕ → Type 0 = λ k. AreLaidSoFar (FIRST_BLOCK_PAGE + c.args.count) m es (i + 1)
    seen (c.loop-i.blocks + k) in
    record {
      ready = c.in_ok-walked-2.ensures.store.ready;
      reads = reads_then _ _ _ c.loop-i.invariant.reads c.walk_over-in-loop-i.ensures.store.only;
      in_range = omega (arith, lt);
      most = (let few = w.ends.few in let long = w.blocks in let b = c.loop-i.invariant.most in
          omega (arith, few, long, b));
      free = c.loop-i.invariant.free;
      so_far = (seen, subst count_family (sym blocks) more);
      room = c.mark_end-else-not-is_extent.ensures.size ∙ c.loop-i.invariant.room;
      ends = walked_ends _ _ m e.chain.first c.in-Some-2.walked w _ _ _ _ are
          (c.mark_end-else-not-is_extent.ensures.marks new)
          (more_counted c.args.count m es i so_far.0 c.loop-i.blocks c.loop-i.ends so_far.1 are e d lt refl);
    }

pub returns-then-blocks-count-clause-found : goal.returns-then-blocks-count-clause-found
returns-then-blocks-count-clause-found g c = λ laid.
    let m = committed c.args.store.now in
    let es = c.args.extents.now in
    let so_far = c.loop-i.invariant.so_far in
    let all : c.loop-i._i ≡ length es = omega (arith, c.loop-i-test.false, c.loop-i.invariant.in_range) in
    let family : ℕ → Type 0 = λ k. AreLaidSoFar (FIRST_BLOCK_PAGE + c.args.count) m es k so_far.0 c.loop-i.blocks in
    let short : c.loop-i.blocks ≢ c.args.count = c.if-blocks-count.true in
    laid_short c.args.count m es so_far.0 c.loop-i.blocks (subst family all so_far.1) short laid

pub returns-clause-found : goal.returns-clause-found
returns-clause-found g c =
    let m = committed c.args.store.now in
    let es = c.args.extents.now in
    let so_far = c.loop-i.invariant.so_far in
    let all : c.loop-i._i ≡ length es = omega (arith, c.loop-i-test.false, c.loop-i.invariant.in_range) in
    let family : ℕ → Type 0 = λ k. AreLaidSoFar (FIRST_BLOCK_PAGE + c.args.count) m es k so_far.0 c.loop-i.blocks in
    let whole : c.loop-i.blocks ≡ c.args.count = c.if-blocks-count.false in (
      laid_all c.args.count m es so_far.0 c.loop-i.blocks c.requires.ready.usable.committed_size
          c.requires.inside (subst family all so_far.1) whole,
      c.loop-i.invariant.free,
    )

pub returns-then-not-is_extent-clause-found : goal.returns-then-not-is_extent-clause-found
returns-then-not-is_extent-clause-found g c = λ laid.
    let m = committed c.args.store.now in
    let es = c.args.extents.now in
    let i = c.loop-i._i in
    let d : Extent = record { chain = record { first = 0; last = 0 }; blocks = 0 } in
    let e : Extent = slice_index_or es i d in
    let lt : i < length es = omega (arith, c.loop-i-test.true) in
    let so_far = c.loop-i.invariant.so_far in
    let w =
    moved (FIRST_BLOCK_PAGE + c.args.count) (c.args.count - c.loop-i.blocks) (committed c.args.store.now) _
    (slice_index_or c.args.extents.now c.loop-i._i
    (record { chain = record { first = 0; last = 0 }; blocks = 0 })).chain.first c.from.result _ c.in-Some-2.walked
    c.loop-i.invariant.reads.keeps.committed_words c.from.ensures c.in-Some-2.is c.in_ok-walked-2.ensures.walked in
    let found = laid_fresh c.args.count m es i so_far.0 c.loop-i.blocks e d lt refl so_far.1 laid in
    let extent = found.1 in
    let blocks : c.in-Some-2.walked.blocks ≡ e.blocks = w.blocks ∙ extent.blocks in
    let last : c.in-Some-2.walked.last ≡ e.chain.last =
    w.last ∙ ap (λ (k : ℕ). slice_index (chain m e.chain.first) (k - 1)) blocks ∙ sym extent.last in
    let yes : IsTrue c.is_extent.result = c.is_extent.ensures.1 (blocks, last) in
    elim c.then-not-is_extent.branch [
      | then-not-is_extent-via-then-not-is_extent v ↦ true≢false (sym yes ∙ v.if-not-is_extent.true)
      | then-not-is_extent-via-else-not-is_extent+then-not-mark_end v ↦ (
          let fresh = end_unmarked c.args.count m es i so_far.0 c.loop-i.blocks c.loop-i.ends so_far.1
          c.loop-i.invariant.ends e.chain.first c.requires.ready.usable.committed_size found.0 in
          let new = v.mark_end-else-not-is_extent.ensures.fresh.1
          (end_fresh _ _ m e.chain.first c.in-Some-2.walked w c.loop-i.ends fresh) in
          true≢false (sym new ∙ v.if-not-mark_end.true))
    ]

pub returns-in_err-head-clause-found : goal.returns-in_err-head-clause-found
returns-in_err-head-clause-found g c = none_ok _ _ _ c.from_residual.ensures.1

pub returns-in_err-head-clause-store : goal.returns-in_err-head-clause-store
returns-in_err-head-clause-store g c =
    reads_handed _ _ _ _ c.from_residual.ensures.1 (c.in_err-head.ensures.store c.requires.ready.idle)

pub returns-in_err-walked-clause-found : goal.returns-in_err-walked-clause-found
returns-in_err-walked-clause-found g c = none_ok _ _ _ c.from_residual-in_err-walked.ensures.1

pub returns-in_err-walked-2-clause-found : goal.returns-in_err-walked-2-clause-found
returns-in_err-walked-2-clause-found g c = none_ok _ _ _ c.from_residual-in_err-walked-2.ensures.1

pub returns-in_err-walked-2-clause-store : goal.returns-in_err-walked-2-clause-store
returns-in_err-walked-2-clause-store g c =
    reads_handed _ _ _ _ c.from_residual-in_err-walked-2.ensures.1
    (reads_on _ _ _ _ c.loop-i.invariant.reads c.in_err-walked-2.ensures.store)

pub returns-in_err-walked-clause-store : goal.returns-in_err-walked-clause-store
returns-in_err-walked-clause-store g c =
    reads_handed _ _ _ _ c.from_residual-in_err-walked.ensures.1
    (reads_on _ _ _ _ c.read.ensures.reads c.in_err-walked.ensures.store)

pub returns-in-None-clause-store : goal.returns-in-None-clause-store
returns-in-None-clause-store g c =
    reads_so_far _ _ (reads_then _ _ _ c.read.ensures.reads c.walk_over.ensures.store.only)
    c.in_ok-walked.ensures.store.ready

pub returns-in-None-2-clause-store : goal.returns-in-None-2-clause-store
returns-in-None-2-clause-store g c =
    reads_so_far _ _ (reads_then _ _ _ c.loop-i.invariant.reads c.walk_over-in-loop-i.ensures.store.only)
    c.in_ok-walked-2.ensures.store.ready

pub returns-then-not-is_extent-clause-store : goal.returns-then-not-is_extent-clause-store
returns-then-not-is_extent-clause-store g c =
    reads_so_far _ _ (reads_then _ _ _ c.loop-i.invariant.reads c.walk_over-in-loop-i.ensures.store.only)
    c.in_ok-walked-2.ensures.store.ready

pub returns-then-blocks-count-clause-store : goal.returns-then-blocks-count-clause-store
returns-then-blocks-count-clause-store g c = reads_so_far _ _ c.loop-i.invariant.reads c.loop-i.invariant.ready

pub returns-clause-store : goal.returns-clause-store
returns-clause-store g c = reads_so_far _ _ c.loop-i.invariant.reads c.loop-i.invariant.ready
