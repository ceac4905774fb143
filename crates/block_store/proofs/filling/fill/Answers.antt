use Rattle.std.proofs.Common.{◌≡◌, ◌+◌, ◌-◌, ◌<◌, ◌≤◌, ℕ, List, None, slice_index, take, sym, ap, ◌∙◌, subst, arith}
use Rattle.undo_journal.specs.Memory.{committed}
use Rattle.block_chain.specs.Chains.{free_chain}
use Rattle.block_chain.specs.ChainChanges.{OnlyContent}
use Rattle.block_chain.specs.ChainParts.{filled_word}
use Rattle.block_chain.specs.laws.Bytes.{leads_blocks, blocks_same}
use Rattle.block_chain.specs.laws.Chains.{head_small, leads_first}
use Rattle.block_chain.specs.laws.Filling.{AreFilled, filled_more, first_filled}
use Rattle.block_store.proofs.Fills.{block_to_fill, first_run, none_filled, only_filled, next_to_fill, next_small}
use Rattle.undo_journal.specs.laws.Exits.{none_ok}
use Rattle.undo_journal.specs.laws.Told.{changes_handed, changes_on, changes_within, reads_after, reads_change}
use Rattle.block_store.proofs.filling.fill.Goals as goal

-- numbers of blocks, in lemmas that read no other fact
none_less : (n : ℕ) → 0 ≤ n
none_less n = omega arith

none_below : (k : ℕ) → k < 0 → ⊥
none_below k below = omega (arith, below)

none_filled_yet : 1 ≤ 0 → ⊥
none_filled_yet some = omega (arith, some)

none_more : (new old : ℕ) → new ≡ old → new ≡ old + 0
none_more new old same = omega (arith, same)

one_more : (old i before mid new : ℕ) → new ≡ mid → mid ≡ before + 1 → before ≡ old + i → new ≡ old + (i + 1)
one_more old i before mid new none one filled = omega (arith, none, one, filled)

all_counted : (old i n new : ℕ) → new ≡ old + i → i ≡ n → new ≡ old + n
all_counted old i n new counted all = omega (arith, counted, all)

next_within : (i n : ℕ) → i < n → i + 1 ≤ n
next_within i n lt = omega (arith, lt)

itself : (n : ℕ) → n ≤ n
itself n = omega arith

at_end : (i n : ℕ) → n ≤ i → i ≤ n → i ≡ n
at_end i n past within = omega (arith, past, within)

some_filled : (i n : ℕ) → i ≡ n → 1 ≤ n → 1 ≤ i
some_filled i n all some = omega (arith, all, some)

one_back : (i : ℕ) → i ≡ i + 1 - 1
one_back i = omega arith

pub loop-i-init : goal.loop-i-init
loop-i-init g c =
    let m = committed c.args.store.now in
    let read = c.read_head.ensures.store.only.keeps.committed_words in
    record {
      in_range = none_less c.args.n;
      only = none_filled m _ (take c.args.n (free_chain m)) read;
      filled = λ k place below low high. absurd (none_below k below);
      last = λ some. absurd (none_filled_yet some);
      page = c.in_ok-first.ensures.page ∙ leads_first m _ (free_chain m) c.requires.free.leads;
      changes = reads_change 0 c.args.store.now c.read_head.new.store None c.requires.ready.idle
          c.in_ok-first.ensures.store;
      counted = none_more _ _ c.read_head.ensures.store.only.board.writes;
    }

pub returns-in_err-fill_block-clause-any_exit : goal.returns-in_err-fill_block-clause-any_exit
returns-in_err-fill_block-clause-any_exit g c =
    let m = committed c.args.store.now in
    let lt : c.loop-i._i < c.args.n = c.loop-i-test.true in
    let only = only_filled m c.args.n c.requires.free
    c.requires.ready.usable.committed_size c.requires.enough c.loop-i._i c.loop-i.page lt c.loop-i.invariant.page
    (committed c.loop-i.store) (committed c.fill_block.new.store) c.from_be_bytes-word.result
    c.loop-i.invariant.changes.ready.usable.committed_size c.loop-i.invariant.only c.fill_block.ensures.any_exit in
    only

pub returns-in_err-page-clause-any_exit : goal.returns-in_err-page-clause-any_exit
returns-in_err-page-clause-any_exit g c =
    let m = committed c.args.store.now in
    let lt : c.loop-i._i < c.args.n = c.loop-i-test.true in
    let only = only_filled m c.args.n c.requires.free
    c.requires.ready.usable.committed_size c.requires.enough c.loop-i._i c.loop-i.page lt c.loop-i.invariant.page
    (committed c.loop-i.store) (committed c.fill_block.new.store) c.from_be_bytes-word.result
    c.loop-i.invariant.changes.ready.usable.committed_size c.loop-i.invariant.only c.fill_block.ensures.any_exit in
    let family : List ℕ → Type 0 = λ l. OnlyContent m (take c.args.n (free_chain m)) l in
    subst family (sym c.read_link.ensures.store.only.keeps.committed_words) only

pub loop-i-preserved : goal.loop-i-preserved
loop-i-preserved g c =
    let m = committed c.args.store.now in
    let lt : c.loop-i._i < c.args.n = c.loop-i-test.true in
    let only = only_filled m c.args.n c.requires.free
    c.requires.ready.usable.committed_size c.requires.enough c.loop-i._i c.loop-i.page lt c.loop-i.invariant.page
    (committed c.loop-i.store) (committed c.fill_block.new.store) c.from_be_bytes-word.result
    c.loop-i.invariant.changes.ready.usable.committed_size c.loop-i.invariant.only c.fill_block.ensures.any_exit in
    let ps = free_chain m in
    let w = c.from_be_bytes-word.result in
    let read = c.read_link.ensures.store.only.keeps.committed_words in
    let family : List ℕ → Type 0 = λ l. OnlyContent m (take c.args.n ps) l in
    let word : w ≡ filled_word c.args.byte = omega (arith, c.from_be_bytes-word.ensures) in
    let by_word : ℕ → Type 0 = λ v. AreFilled (committed c.loop-i.store) (take c.loop-i._i ps) v in
    let by_words : List ℕ → Type 0 = λ l. AreFilled l (take (c.loop-i._i + 1) ps) w in
    let by_byte : ℕ → Type 0 = λ v. AreFilled (committed c.read_link.new.store) (take (c.loop-i._i + 1) ps) v in
    let filled = filled_more (committed c.loop-i.store)
    _ ps c.args.n c.loop-i._i c.loop-i.page w c.requires.free.once lt c.requires.enough c.loop-i.invariant.page
    (block_to_fill m c.args.n c.requires.free c.requires.ready.usable.committed_size c.requires.enough c.loop-i._i
    c.loop-i.page lt c.loop-i.invariant.page (committed c.loop-i.store) c.loop-i.invariant.only.size)
    c.loop-i.invariant.changes.ready.usable.committed_size c.in_ok-fill_block.ensures.done
    (subst by_word (sym word) c.loop-i.invariant.filled) in
    record {
      in_range = next_within c.loop-i._i c.args.n lt;
      last = λ _. c.loop-i.invariant.page
          ∙ ap (λ (k : ℕ). slice_index ps k) (one_back c.loop-i._i);
      only = subst family (sym read) only;
      filled = subst by_byte word (subst by_words (sym read) filled);
      page = c.in_ok-page.ensures.page
          ∙ next_to_fill m c.args.n c.requires.free c.requires.ready.usable.committed_size c.requires.enough c.loop-i._i
          c.loop-i.page lt c.loop-i.invariant.page _ only;
      changes = reads_after (c.loop-i._i + 1) c.args.store.now c.fill_block.new.store c.read_link.new.store None
          (changes_on c.loop-i._i 1 (c.loop-i._i + 1) c.args.store.now c.loop-i.store c.fill_block.new.store None
          (itself (c.loop-i._i + 1)) c.loop-i.invariant.changes c.in_ok-fill_block.ensures.store)
          c.in_ok-page.ensures.store;
      counted = one_more _ c.loop-i._i _ _ _ c.read_link.ensures.store.only.board.writes
          c.in_ok-fill_block.ensures.counted c.loop-i.invariant.counted;
    }

pub returns-clause-found : goal.returns-clause-found
returns-clause-found g c = λ some.
    let m = committed c.args.store.now in
    let ps = free_chain m in
    let all = at_end c.loop-i._i c.args.n c.loop-i-test.false c.loop-i.invariant.in_range in
    let last : c.loop-i.last ≡ slice_index ps (c.args.n - 1) =
    c.loop-i.invariant.last (some_filled c.loop-i._i c.args.n all some) ∙ ap (λ (k : ℕ). slice_index ps (k - 1)) all in
    first_run m c.args.n _ c.requires.free c.requires.ready.usable.committed_size c.requires.enough some
    c.in_ok-first.ensures.page last (c.loop-i.invariant.page ∙ ap (λ (k : ℕ). slice_index ps k) all)

pub returns-in_err-first-clause-found : goal.returns-in_err-first-clause-found
returns-in_err-first-clause-found g c = none_ok _ _ _ c.from_residual.ensures.1

pub returns-in_err-fill_block-clause-found : goal.returns-in_err-fill_block-clause-found
returns-in_err-fill_block-clause-found g c = none_ok _ _ _ c.from_residual-in_err-fill_block.ensures.1

pub returns-in_err-page-clause-found : goal.returns-in_err-page-clause-found
returns-in_err-page-clause-found g c = none_ok _ _ _ c.from_residual-in_err-page.ensures.1

pub returns-clause-done : goal.returns-clause-done
returns-clause-done g c =
    let m = committed c.args.store.now in
    let ps = free_chain m in
    let all = at_end c.loop-i._i c.args.n c.loop-i-test.false c.loop-i.invariant.in_range in
    let family : ℕ → Type 0 = λ k. AreFilled (committed c.loop-i.store) (take k ps) (filled_word c.args.byte) in
    first_filled (committed c.loop-i.store) ps c.args.n
    c.args.byte c.loop-i.invariant.changes.ready.usable.committed_size (blocks_same m (committed c.loop-i.store)
    ps c.loop-i.invariant.only.size (leads_blocks m _ 0 ps c.requires.free.leads)) c.requires.enough (omega arith)
    (subst family all c.loop-i.invariant.filled)

pub returns-in_err-first-clause-done : goal.returns-in_err-first-clause-done
returns-in_err-first-clause-done g c = none_ok _ _ _ c.from_residual.ensures.1

pub returns-in_err-first-clause-store : goal.returns-in_err-first-clause-store
returns-in_err-first-clause-store g c =
    changes_handed c.args.n c.args.store.now c.read_head.new.store _ _ c.from_residual.ensures.1
    (reads_change c.args.n c.args.store.now c.read_head.new.store _ c.requires.ready.idle c.in_err-first.ensures.store)

pub returns-in_err-fill_block-clause-done : goal.returns-in_err-fill_block-clause-done
returns-in_err-fill_block-clause-done g c = none_ok _ _ _ c.from_residual-in_err-fill_block.ensures.1

pub returns-in_err-fill_block-clause-store : goal.returns-in_err-fill_block-clause-store
returns-in_err-fill_block-clause-store g c =
    let lt : c.loop-i._i < c.args.n = c.loop-i-test.true in
    changes_handed c.args.n c.args.store.now c.fill_block.new.store _ _ c.from_residual-in_err-fill_block.ensures.1
    (changes_on c.loop-i._i 1 c.args.n c.args.store.now c.loop-i.store c.fill_block.new.store _
    (next_within c.loop-i._i c.args.n lt) c.loop-i.invariant.changes c.in_err-fill_block.ensures.store)

pub returns-in_err-page-clause-done : goal.returns-in_err-page-clause-done
returns-in_err-page-clause-done g c = none_ok _ _ _ c.from_residual-in_err-page.ensures.1

pub returns-in_err-page-clause-store : goal.returns-in_err-page-clause-store
returns-in_err-page-clause-store g c =
    let lt : c.loop-i._i < c.args.n = c.loop-i-test.true in
    changes_handed c.args.n c.args.store.now c.read_link.new.store _ _ c.from_residual-in_err-page.ensures.1
    (reads_after c.args.n c.args.store.now c.fill_block.new.store c.read_link.new.store _
    (changes_on c.loop-i._i 1 c.args.n c.args.store.now c.loop-i.store c.fill_block.new.store None
    (next_within c.loop-i._i c.args.n lt) c.loop-i.invariant.changes c.in_ok-fill_block.ensures.store)
    c.in_err-page.ensures.store)

pub returns-in_err-first-clause-any_exit : goal.returns-in_err-first-clause-any_exit
returns-in_err-first-clause-any_exit g c = none_filled _ _ _ c.read_head.ensures.store.only.keeps.committed_words

pub returns-clause-any_exit : goal.returns-clause-any_exit
returns-clause-any_exit g c = c.loop-i.invariant.only

pub returns-in_err-first-clause-counted : goal.returns-in_err-first-clause-counted
returns-in_err-first-clause-counted g c = none_ok _ _ _ c.from_residual.ensures.1

pub returns-in_err-fill_block-clause-counted : goal.returns-in_err-fill_block-clause-counted
returns-in_err-fill_block-clause-counted g c = none_ok _ _ _ c.from_residual-in_err-fill_block.ensures.1

pub returns-in_err-page-clause-counted : goal.returns-in_err-page-clause-counted
returns-in_err-page-clause-counted g c = none_ok _ _ _ c.from_residual-in_err-page.ensures.1

pub returns-clause-counted : goal.returns-clause-counted
returns-clause-counted g c =
    all_counted _ c.loop-i._i c.args.n _ c.loop-i.invariant.counted
    (at_end c.loop-i._i c.args.n c.loop-i-test.false c.loop-i.invariant.in_range)

pub returns-clause-store : goal.returns-clause-store
returns-clause-store g c =
    changes_within c.loop-i._i c.args.n c.args.store.now c.loop-i.store None c.loop-i.invariant.in_range
    c.loop-i.invariant.changes

pub read_head-requires : goal.read_head-requires
read_head-requires g c = record {
  ready = c.requires.ready;
  small = head_small _ _ _ c.requires.ready.usable.committed_size c.requires.free.leads;
}

pub fill_block-requires : goal.fill_block-requires
fill_block-requires g c = record {
  ready = c.loop-i.invariant.changes.ready;
  block = let m = committed c.args.store.now in
      let lt : c.loop-i._i < c.args.n = c.loop-i-test.true in
      block_to_fill m c.args.n c.requires.free c.requires.ready.usable.committed_size c.requires.enough c.loop-i._i
      c.loop-i.page lt c.loop-i.invariant.page (committed c.loop-i.store) c.loop-i.invariant.only.size;
}

pub read_link-requires : goal.read_link-requires
read_link-requires g c = record {
  ready = c.in_ok-fill_block.ensures.store.ready;
  block = let m = committed c.args.store.now in
      let lt : c.loop-i._i < c.args.n = c.loop-i-test.true in
      let only = only_filled m c.args.n c.requires.free
      c.requires.ready.usable.committed_size c.requires.enough c.loop-i._i c.loop-i.page lt c.loop-i.invariant.page
      (committed c.loop-i.store) (committed c.fill_block.new.store) c.from_be_bytes-word.result
      c.loop-i.invariant.changes.ready.usable.committed_size c.loop-i.invariant.only c.fill_block.ensures.any_exit in
      block_to_fill m c.args.n c.requires.free c.requires.ready.usable.committed_size c.requires.enough c.loop-i._i
      c.loop-i.page lt c.loop-i.invariant.page (committed c.fill_block.new.store) only.size;
  small = let m = committed c.args.store.now in
      let lt : c.loop-i._i < c.args.n = c.loop-i-test.true in
      let only = only_filled m c.args.n c.requires.free
      c.requires.ready.usable.committed_size c.requires.enough c.loop-i._i c.loop-i.page lt c.loop-i.invariant.page
      (committed c.loop-i.store) (committed c.fill_block.new.store) c.from_be_bytes-word.result
      c.loop-i.invariant.changes.ready.usable.committed_size c.loop-i.invariant.only c.fill_block.ensures.any_exit in
      next_small m c.args.n c.requires.free c.requires.ready.usable.committed_size c.requires.enough c.loop-i._i
      c.loop-i.page lt c.loop-i.invariant.page _ only;
}
