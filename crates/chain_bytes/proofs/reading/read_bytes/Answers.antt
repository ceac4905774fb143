use Rattle.std.proofs.Common.{◌+◌, ◌-◌, ℕ, List, length, length-append, length-take, take, ◌∙◌, ap, drop, arith, rules}
use Rattle.undo_journal.specs.Memory.{committed}
use Rattle.undo_journal.specs.laws.Calls.{reads_then}
use Rattle.undo_journal.specs.laws.Exits.{none_ok}
use Rattle.undo_journal.specs.laws.Told.{reads_handed, reads_none, reads_on, reads_so_far}
use Rattle.block_chain.specs.declared.layout.TheConstants.{MOST_BLOCKS}
use Rattle.block_chain.specs.Chains.{bytes_of, chain_bytes, chain_of}
use Rattle.block_chain.specs.BlockWords.{word}
use Rattle.block_chain.specs.laws.Laying.{pages_most}
use Rattle.chain_bytes.proofs.Runs.{block_here, none_appended, none_asked, read_all, read_more, read_none, some_bytes}
use Rattle.chain_bytes.proofs.Runs.{some_more}
use Rattle.chain_bytes.proofs.reading.read_bytes.Goals as goal

-- no bytes are asked for

pub returns-then-count-eq0-clause-done : goal.returns-then-count-eq0-clause-done
returns-then-count-eq0-clause-done g c =
    none_asked (drop c.args.offset (chain_bytes (committed c.args.store.now) c.args.chain)) c.args.out.now.items
    c.args.count c.if-count-eq0.true

pub returns-then-count-eq0-clause-any_exit : goal.returns-then-count-eq0-clause-any_exit
returns-then-count-eq0-clause-any_exit g c = none_appended c.args.out.now.items _

pub returns-then-count-eq0-clause-store : goal.returns-then-count-eq0-clause-store
returns-then-count-eq0-clause-store g c = reads_none _ c.requires.chain.ready

-- the first block isn't found

pub returns-in_err-page-clause-done : goal.returns-in_err-page-clause-done
returns-in_err-page-clause-done g c = none_ok _ _ _ c.from_residual.ensures.1

pub returns-in_err-page-clause-any_exit : goal.returns-in_err-page-clause-any_exit
returns-in_err-page-clause-any_exit g c = none_appended c.args.out.now.items _

pub returns-in_err-page-clause-store : goal.returns-in_err-page-clause-store
returns-in_err-page-clause-store g c =
    reads_handed _ _ _ _ c.from_residual.ensures.1 c.in_err-page.ensures.store

pub overflow_add-end : goal.overflow_add-end
overflow_add-end g c =
    let most = pages_most (committed c.args.store.now) MOST_BLOCKS c.args.chain.first in
    omega (arith, most, c.requires.within)

pub loop-at-init : goal.loop-at-init
loop-at-init g c = record {
  ready = c.in_ok-page.ensures.store.ready;
  placed = c.place_of_byte-place.ensures;
  reads = c.block_at.ensures.store.only;
  bytes = read_none _ (chain_of (committed c.args.store.now) c.args.chain) _ c.args.count _ _
      c.in_ok-page.ensures.page;
}

-- a word more

pub read_word-requires-clause-place : goal.read_word-requires-clause-place
read_word-requires-clause-place g c = omega (arith, c.loop-at.invariant.placed)

pub returns-in_err-word-clause-done : goal.returns-in_err-word-clause-done
returns-in_err-word-clause-done g c = none_ok _ _ _ c.from_residual-in_err-word.ensures.1

pub returns-in_err-word-clause-any_exit : goal.returns-in_err-word-clause-any_exit
returns-in_err-word-clause-any_exit g c =
    let m = committed c.args.store.now in
    some_bytes m
    (chain_of m c.args.chain) _ c.args.offset c.args.count c.requires.chain.ready.usable.committed_size
    c.requires.chain.leads
    c.requires.within
    _ _ _ c.loop-at.invariant.bytes.within c.loop-at.invariant.bytes.so_far

pub returns-in_err-word-clause-store : goal.returns-in_err-word-clause-store
returns-in_err-word-clause-store g c =
    reads_handed _ _ _ _ c.from_residual-in_err-word.ensures.1
    (reads_on _ _ _ _ c.loop-at.invariant.reads c.in_err-word.ensures.store)

pub overflow_add-at : goal.overflow_add-at
overflow_add-at g c =
    let most = pages_most (committed c.args.store.now) MOST_BLOCKS c.args.chain.first in
    omega (arith, most, c.requires.within, c.bytes_in_word-some.ensures.end)

pub next_place-place-requires-clause-some : goal.next_place-place-requires-clause-some
next_place-place-requires-clause-some g c = omega (arith, c.bytes_in_word-some.ensures.some)

pub next_place-place-requires-clause-place : goal.next_place-place-requires-clause-place
next_place-place-requires-clause-place g c =
    omega (
      arith,
      c.loop-at.invariant.placed,
      c.bytes_in_word-some.ensures.some,
      c.bytes_in_word-some.ensures.word,
    )

pub block_of_byte-requires-clause-place : goal.block_of_byte-requires-clause-place
block_of_byte-requires-clause-place g c = c.next_place-place.ensures

pub returns-in_err-page-2-clause-done : goal.returns-in_err-page-2-clause-done
returns-in_err-page-2-clause-done g c = none_ok _ _ _ c.from_residual-in_err-page-2.ensures.1

pub returns-in_err-page-2-clause-any_exit : goal.returns-in_err-page-2-clause-any_exit
returns-in_err-page-2-clause-any_exit g c =
    let m = committed c.args.store.now in
    let here = c.in_ok-word.ensures.word
    ∙ ap (λ (p : ℕ). word (committed c.loop-at.store) c.loop-at.page (1 + p)) c.loop-at.invariant.placed in
    some_more m
    (chain_of m c.args.chain) _ c.args.offset c.args.count c.requires.chain.ready.usable.committed_size
    c.requires.chain.leads
    c.requires.within
    _ _ _ _ _ _ _ _ c.loop-at.invariant.reads.keeps.committed_words c.loop-at.invariant.bytes
    c.bytes_in_word-some.ensures.word c.bytes_in_word-some.ensures.end here
    c.append_bytes.ensures.items

pub returns-in_err-page-2-clause-store : goal.returns-in_err-page-2-clause-store
returns-in_err-page-2-clause-store g c =
    reads_handed _ _ _ _ c.from_residual-in_err-page-2.ensures.1
    (reads_on _ _ _ _ (reads_then _ _ _ c.loop-at.invariant.reads c.read_word.ensures.store.only)
    c.in_err-page-2.ensures.store)

pub loop-at-preserved : goal.loop-at-preserved
loop-at-preserved g c =
    let m = committed c.args.store.now in
    let here = c.in_ok-word.ensures.word
    ∙ ap (λ (p : ℕ). word (committed c.loop-at.store) c.loop-at.page (1 + p)) c.loop-at.invariant.placed in
    record {
      ready = c.in_ok-page-2.ensures.store.ready;
      placed = c.next_place-place.ensures;
      reads = reads_then _ _ _ c.loop-at.invariant.reads
          (reads_then _ _ _ c.read_word.ensures.store.only c.block_of_byte.ensures.store.only);
      bytes = read_more m
          (chain_of m c.args.chain) _ c.args.offset c.args.count c.requires.chain.ready.usable.committed_size
          c.requires.chain.leads
          c.requires.within
          _ _ _ _ _ _ _ _ c.loop-at.invariant.reads.keeps.committed_words c.loop-at.invariant.bytes
          c.bytes_in_word-some.ensures.word c.bytes_in_word-some.ensures.end here
          c.append_bytes.ensures.items _ _ c.read_word.ensures.store.only.keeps.committed_words
          c.bytes_in_word-some.ensures.some c.loop-at-test.true c.in_ok-page-2.ensures.page;
    }

pub loop-at-smaller : goal.loop-at-smaller
loop-at-smaller g c = omega (arith, c.bytes_in_word-some.ensures.some, c.bytes_in_word-some.ensures.end)

-- all are read

pub returns-clause-done : goal.returns-clause-done
returns-clause-done g c = read_all _ _ _ _ _ _ _ _ c.loop-at.invariant.bytes (omega (arith, c.loop-at-test.false))

pub returns-clause-any_exit : goal.returns-clause-any_exit
returns-clause-any_exit g c =
    let m = committed c.args.store.now in
    some_bytes m
    (chain_of m c.args.chain) _ c.args.offset c.args.count c.requires.chain.ready.usable.committed_size
    c.requires.chain.leads
    c.requires.within
    _ _ _ c.loop-at.invariant.bytes.within c.loop-at.invariant.bytes.so_far

pub returns-clause-store : goal.returns-clause-store
returns-clause-store g c = reads_so_far _ _ c.loop-at.invariant.reads c.loop-at.invariant.ready

pub read_word-requires-clause-block : goal.read_word-requires-clause-block
read_word-requires-clause-block g c = record {
  ready = c.loop-at.invariant.ready;
  block = let m = committed c.args.store.now in
      (block_here m
      (chain_of m c.args.chain) _ c.args.offset c.args.count c.requires.chain.ready.usable.committed_size
      c.requires.chain.leads
      c.requires.within
      _ _ _ c.loop-at.invariant.reads.keeps.committed_words c.loop-at.invariant.bytes.block c.loop-at-test.true).block;
}

pub block_of_byte-requires-clause-link : goal.block_of_byte-requires-clause-link
block_of_byte-requires-clause-link g c = record {
  ready = c.in_ok-word.ensures.store.ready;
  block = let m = committed c.args.store.now in
      let same = c.read_word.ensures.store.only.keeps.committed_words ∙ c.loop-at.invariant.reads.keeps.committed_words
      in
      (block_here m
      (chain_of m c.args.chain) _ c.args.offset c.args.count c.requires.chain.ready.usable.committed_size
      c.requires.chain.leads
      c.requires.within
      _ _ _ same c.loop-at.invariant.bytes.block c.loop-at-test.true).block;
  small = let m = committed c.args.store.now in
      let same = c.read_word.ensures.store.only.keeps.committed_words ∙ c.loop-at.invariant.reads.keeps.committed_words
      in
      (block_here m
      (chain_of m c.args.chain) _ c.args.offset c.args.count c.requires.chain.ready.usable.committed_size
      c.requires.chain.leads
      c.requires.within
      _ _ _ same c.loop-at.invariant.bytes.block c.loop-at-test.true).small;
}

pub block_at-requires-clause-chain : goal.block_at-requires-clause-chain
block_at-requires-clause-chain g c = c.requires.chain

pub block_at-requires-clause-within : goal.block_at-requires-clause-within
block_at-requires-clause-within g c = omega (arith, c.requires.within, c.if-count-eq0.false)

pub append_bytes-requires : goal.append_bytes-requires
append_bytes-requires g c =
    let m = committed c.args.store.now in
    let kept = c.loop-at.invariant.bytes in
    let some = c.bytes_in_word-some.ensures in
    let asked = drop c.args.offset (bytes_of m (chain_of m c.args.chain)) in
    let so_far = take (c.loop-at.at - c.args.offset) asked in
    let size = ap (λ (l : List ℕ). length l) kept.so_far ∙ length-append c.args.out.now.items so_far in
    let most = length-take (c.loop-at.at - c.args.offset) asked in (
      search rules,
      (some.word, omega (arith, size, most, kept.from, c.requires.room, some.end)),
    )
