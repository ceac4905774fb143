use Rattle.std.proofs.Common.{rules, refl, ◌≡◌, ◌+◌, ◌-◌, ◌/◌, ◌≤◌, length, arith}
use Rattle.undo_journal.specs.Memory.{current}
use Rattle.undo_journal.specs.Lent.{memory_of}
use Rattle.undo_journal.specs.laws.Calls.{reads_sets, sets_then, sets_weaker, reads_same, reads_runs, runs_then}
use Rattle.undo_journal.specs.laws.Exits.{none_ok}
use Rattle.undo_journal.specs.laws.Told.{sets_in_handed, sets_in_on}
use Rattle.block_chain.specs.Chains.{chain_of}
use Rattle.block_chain.specs.laws.Overwriting.{overwrites_none}
use Rattle.block_chain.specs.ChainChanges.{touched_blocks}
use Rattle.chain_bytes.proofs.RunCosts.{none_yet, runs_all, runs_more, run_put, run_next}
use Rattle.chain_bytes.proofs.Puts.{link_small, put_few, put_first, put_last, put_more}
use Rattle.chain_bytes.proofs.Counting.{counted-all, counted-more, counted-no_bytes, counted-none, waits-all}
use Rattle.chain_bytes.proofs.Counting.{waits-no_bytes}
use Rattle.chain_bytes.proofs.Puts.{put_block, word_block, word_fits, word_small, word_within}
use Rattle.chain_bytes.proofs.bytes.set_bytes.Goals as goal

-- no bytes are put

pub returns-then-is_empty-clause-done : goal.returns-then-is_empty-clause-done
returns-then-is_empty-clause-done g c =
    let m = current (memory_of c.args.txn.now) in
    let none : length c.args.bytes.now ≡ 0 = search rules in
    overwrites_none m (chain_of m c.args.chain) c.args.offset c.args.bytes.now none

-- the first block isn't found

pub returns-in_err-page-clause-done : goal.returns-in_err-page-clause-done
returns-in_err-page-clause-done g c = none_ok _ _ _ c.from_residual.ensures.1

pub returns-in_err-page-clause-store : goal.returns-in_err-page-clause-store
returns-in_err-page-clause-store g c =
    sets_in_handed _ _ _ _ _ c.from_residual.ensures.1 (record {
      ready = tt;
      tells = c.in_err-page.ensures.store.tells;
      sets = reads_sets _ _ _ c.walk.ensures.store.only;
    })

pub loop-k-init : goal.loop-k-init
loop-k-init g c =
    let m = current (memory_of c.args.txn.now) in
    let some : 1 ≤ length c.args.bytes.now = search rules in
    record {
      within = omega (arith, some);
      ready = c.in_ok-page.ensures.store.ready;
      sets = reads_sets _ _ _ c.walk.ensures.store.only;
      runs = none_yet refl (reads_runs 0 _ _ c.walk.ensures.store.only.reads);
      counted = λ idle. counted-none (chain_of m c.args.chain) (c.args.offset / 4) _ _
          c.walk.ensures.store.only.reads idle;
      put = put_first m (chain_of m c.args.chain) _
          c.args.offset
          c.args.bytes.now c.requires.lie.chain c.requires.lie.within c.requires.lie.small
          c.requires.room.ready.current_size
          _ _ some c.in_ok-page.ensures.page c.walk.ensures.store.only.reads.keeps.current_words;
    }

-- a word more

pub put_word-requires-clause-block : goal.put_word-requires-clause-block
put_word-requires-clause-block g c =
    let m = current (memory_of c.args.txn.now) in
    word_block m (chain_of m c.args.chain) _ c.args.offset c.args.bytes.now c.requires.lie.chain c.requires.lie.within
    c.requires.lie.small c.requires.room.ready.current_size _ _ _ c.loop-k.invariant.put (omega (
      arith,
      c.loop-k-test.true,
    ))

pub put_word-requires-clause-small : goal.put_word-requires-clause-small
put_word-requires-clause-small g c =
    let m = current (memory_of c.args.txn.now) in
    word_small m (chain_of m c.args.chain) _ c.args.offset c.args.bytes.now c.requires.lie.chain c.requires.lie.within
    c.requires.lie.small c.requires.room.ready.current_size _ _ _ c.loop-k.invariant.put (omega (
      arith,
      c.loop-k-test.true,
    ))

pub returns-in_err-put_word-clause-done : goal.returns-in_err-put_word-clause-done
returns-in_err-put_word-clause-done g c = none_ok _ _ _ c.from_residual-in_err-put_word.ensures.1

pub returns-in_err-put_word-clause-store : goal.returns-in_err-put_word-clause-store
returns-in_err-put_word-clause-store g c =
    let m = current (memory_of c.args.txn.now) in
    let fits = word_fits m (chain_of m c.args.chain) _ c.args.offset c.args.bytes.now c.requires.lie.chain
    c.requires.lie.within
    c.requires.lie.small c.requires.room.ready.current_size _ _ _ c.loop-k.invariant.put (omega (
      arith,
      c.loop-k-test.true,
    )) in
    sets_in_handed _ _ _ _ _ c.from_residual-in_err-put_word.ensures.1
    (sets_in_on _ _ _ _ _ _ _ fits c.loop-k.invariant.sets c.in_err-put_word.ensures.store)

pub returns-in_err-page-2-clause-done : goal.returns-in_err-page-2-clause-done
returns-in_err-page-2-clause-done g c = none_ok _ _ _ c.from_residual-in_err-page-2.ensures.1

pub returns-in_err-page-2-clause-store : goal.returns-in_err-page-2-clause-store
returns-in_err-page-2-clause-store g c =
    let m = current (memory_of c.args.txn.now) in
    let fits = word_fits m (chain_of m c.args.chain) _ c.args.offset c.args.bytes.now c.requires.lie.chain
    c.requires.lie.within
    c.requires.lie.small c.requires.room.ready.current_size _ _ _ c.loop-k.invariant.put (omega (
      arith,
      c.loop-k-test.true,
    )) in
    let put = sets_then _ _ _ _ _ _ fits c.loop-k.invariant.sets c.put_word.ensures.store.sets in
    sets_in_handed _ _ _ _ _ c.from_residual-in_err-page-2.ensures.1 (record {
      ready = tt;
      sets = sets_then _ 0 _ _ _ _ (omega arith) put (reads_sets 0 _ _ c.block_of_word.ensures.store.only);
      tells = c.in_err-page-2.ensures.store.tells;
    })

pub loop-k-preserved : goal.loop-k-preserved
loop-k-preserved g c =
    let m = current (memory_of c.args.txn.now) in
    let k = c.loop-k.k in
    let one : k - c.args.offset / 4 + 1 ≤ k + 1 - c.args.offset / 4 = omega (arith, c.loop-k.invariant.put.from) in
    let put = sets_then _ _ _ _ _ _ one c.loop-k.invariant.sets c.put_word.ensures.store.sets in
    record {
      within = omega (arith, c.loop-k-test.true);
      ready = c.in_ok-page-2.ensures.store.ready;
      sets = sets_then _ 0 _ _ _ _ (omega arith) put (reads_sets 0 _ _ c.block_of_word.ensures.store.only);
      runs = run_next _ _ _ _ _ _ c.loop-k.invariant.runs refl _ c.put_word.ensures.store.sets.writes
          c.put_word.ensures.goes_on c.loop-k.invariant.put.from c.in_ok-put_word.ensures.next _
          c.block_of_word.ensures.store.only.reads _ _ c.in_ok-page-2.ensures.page;
      counted = λ idle. counted-more (chain_of m c.args.chain) (c.args.offset / 4)
          k _ _ _ _ _ (c.loop-k.invariant.counted idle) c.requires.lie.chain.once c.loop-k.invariant.put.from
          (word_within m
          (chain_of m c.args.chain) _ c.args.offset c.args.bytes.now c.requires.lie.chain c.requires.lie.within
          c.requires.lie.small
          c.requires.room.ready.current_size _ _ _ c.loop-k.invariant.put (omega (arith, c.loop-k-test.true)))
          (word_block m (chain_of m c.args.chain) _ c.args.offset c.args.bytes.now c.requires.lie.chain
          c.requires.lie.within
          c.requires.lie.small c.requires.room.ready.current_size _ _ _ c.loop-k.invariant.put
          (omega (arith, c.loop-k-test.true))).0
          c.loop-k.invariant.put.block c.in_ok-put_word.ensures.joins c.block_of_word.ensures.store.only.reads;
      put = put_more m (chain_of m c.args.chain) _ c.args.offset c.args.bytes.now c.requires.lie.chain
          c.requires.lie.within
          c.requires.lie.small c.requires.room.ready.current_size _
          _ _ c.loop-k.invariant.put (omega (arith, c.loop-k-test.true)) _ c.in_ok-put_word.ensures.done
          _ _ c.block_of_word.ensures.store.only.reads.keeps.current_words c.in_ok-page-2.ensures.page;
    }

-- all are put

pub returns-clause-done : goal.returns-clause-done
returns-clause-done g c =
    let m = current (memory_of c.args.txn.now) in
    put_last m (chain_of m c.args.chain) _ c.args.offset c.args.bytes.now c.requires.lie.chain c.requires.lie.within
    c.requires.lie.small c.requires.room.ready.current_size _ _ _ c.loop-k.invariant.put (omega (
      arith,
      c.loop-k-test.false,
    ))

pub returns-clause-store : goal.returns-clause-store
returns-clause-store g c =
    let m = current (memory_of c.args.txn.now) in
    let few = put_few m (chain_of m c.args.chain) _
    c.args.offset c.args.bytes.now c.requires.lie.chain c.requires.lie.within c.requires.lie.small
    c.requires.room.ready.current_size
    _ _ _ c.loop-k.invariant.put (omega (arith, c.loop-k.invariant.within)) in
    record {
      sets = sets_weaker _ _ _ _ few c.loop-k.invariant.sets;
      ready = c.loop-k.invariant.ready;
      tells = c.loop-k.invariant.ready.works;
    }

-- the runs

pub returns-then-is_empty-clause-runs : goal.returns-then-is_empty-clause-runs
returns-then-is_empty-clause-runs g c = reads_runs _ _ _ (reads_same _)

pub returns-in_err-page-clause-runs : goal.returns-in_err-page-clause-runs
returns-in_err-page-clause-runs g c = reads_runs _ _ _ c.walk.ensures.store.only.reads

pub returns-in_err-put_word-clause-runs : goal.returns-in_err-put_word-clause-runs
returns-in_err-put_word-clause-runs g c =
    runs_more _ _ _ _ _ _ c.loop-k.invariant.runs c.loop-k.invariant.put.some (omega (arith, c.loop-k-test.true)) _
    (run_put _ _ _ _ _ _ c.loop-k.invariant.runs refl _ c.put_word.ensures.store.sets.writes c.put_word.ensures.goes_on
    c.loop-k.invariant.put.from)

pub returns-in_err-page-2-clause-runs : goal.returns-in_err-page-2-clause-runs
returns-in_err-page-2-clause-runs g c =
    let blocks = touched_blocks c.args.offset (length c.args.bytes.now) in
    runs_then blocks 0 blocks _ _ _ (omega arith)
    (runs_more _ _ _ _ _ _ c.loop-k.invariant.runs c.loop-k.invariant.put.some (omega (arith, c.loop-k-test.true)) _
    (run_put _ _ _ _ _ _ c.loop-k.invariant.runs refl _ c.put_word.ensures.store.sets.writes c.put_word.ensures.goes_on
    c.loop-k.invariant.put.from)) (reads_runs 0 _ _ c.block_of_word.ensures.store.only.reads)

pub returns-clause-runs : goal.returns-clause-runs
returns-clause-runs g c =
    runs_all _ _ _ _ _ _ c.loop-k.invariant.runs c.loop-k.invariant.put.some (omega (arith, c.loop-k.invariant.within))

-- the device writes, counted

pub returns-then-is_empty-clause-counted : goal.returns-then-is_empty-clause-counted
returns-then-is_empty-clause-counted g c = λ idle.
    let none : length c.args.bytes.now ≡ 0 = search rules in
    counted-no_bytes c.args.offset (length c.args.bytes.now) (memory_of c.args.txn.now) none idle

pub returns-clause-counted : goal.returns-clause-counted
returns-clause-counted g c = λ idle.
    let m = current (memory_of c.args.txn.now) in
    counted-all (chain_of m c.args.chain) c.args.offset (length c.args.bytes.now) c.loop-k.k
    _ _ (c.loop-k.invariant.counted idle) c.loop-k.invariant.put.some c.loop-k.invariant.put.from
    (omega (arith, c.loop-k-test.false)) (omega (arith, c.loop-k.invariant.within))

pub returns-in_err-page-clause-counted : goal.returns-in_err-page-clause-counted
returns-in_err-page-clause-counted g c = none_ok _ _ _ c.from_residual.ensures.1

pub returns-in_err-put_word-clause-counted : goal.returns-in_err-put_word-clause-counted
returns-in_err-put_word-clause-counted g c = none_ok _ _ _ c.from_residual-in_err-put_word.ensures.1

pub returns-in_err-page-2-clause-counted : goal.returns-in_err-page-2-clause-counted
returns-in_err-page-2-clause-counted g c = none_ok _ _ _ c.from_residual-in_err-page-2.ensures.1

-- what waits

pub returns-then-is_empty-clause-waits : goal.returns-then-is_empty-clause-waits
returns-then-is_empty-clause-waits g c = λ idle.
    let none : length c.args.bytes.now ≡ 0 = search rules in
    waits-no_bytes c.args.offset (length c.args.bytes.now) (memory_of c.args.txn.now) none idle

pub returns-clause-waits : goal.returns-clause-waits
returns-clause-waits g c = λ idle.
    let m = current (memory_of c.args.txn.now) in
    waits-all (chain_of m c.args.chain) c.args.offset (length c.args.bytes.now) c.loop-k.k
    _ _ (c.loop-k.invariant.counted idle) c.loop-k.invariant.put.some
    (omega (arith, c.loop-k-test.false)) (omega (arith, c.loop-k.invariant.within))

pub returns-in_err-page-clause-waits : goal.returns-in_err-page-clause-waits
returns-in_err-page-clause-waits g c = none_ok _ _ _ c.from_residual.ensures.1

pub returns-in_err-put_word-clause-waits : goal.returns-in_err-put_word-clause-waits
returns-in_err-put_word-clause-waits g c = none_ok _ _ _ c.from_residual-in_err-put_word.ensures.1

pub returns-in_err-page-2-clause-waits : goal.returns-in_err-page-2-clause-waits
returns-in_err-page-2-clause-waits g c = none_ok _ _ _ c.from_residual-in_err-page-2.ensures.1

pub put_word-requires-clause-room : goal.put_word-requires-clause-room
put_word-requires-clause-room g c = record {
  ready = c.loop-k.invariant.ready;
  enough = let m = current (memory_of c.args.txn.now) in
      let fits = word_fits m (chain_of m c.args.chain) _ c.args.offset c.args.bytes.now c.requires.lie.chain
      c.requires.lie.within
      c.requires.lie.small c.requires.room.ready.current_size _ _ _ c.loop-k.invariant.put (omega (
        arith,
        c.loop-k-test.true,
      )) in
      omega (arith, fits, c.loop-k.invariant.sets.room, c.requires.room.enough);
}

pub block_of_word-requires : goal.block_of_word-requires
block_of_word-requires g c = record {
  ready = c.in_ok-put_word.ensures.store.ready;
  block = let m = current (memory_of c.args.txn.now) in
      put_block m (chain_of m c.args.chain) _ c.args.offset c.args.bytes.now c.requires.lie.chain c.requires.lie.within
      c.requires.lie.small c.requires.room.ready.current_size _ _ _ c.loop-k.invariant.put (omega (
        arith,
        c.loop-k-test.true,
      )) _
      c.in_ok-put_word.ensures.done;
  small = let m = current (memory_of c.args.txn.now) in
      link_small m (chain_of m c.args.chain) _ c.args.offset c.args.bytes.now c.requires.lie.chain c.requires.lie.within
      c.requires.lie.small c.requires.room.ready.current_size _ _ _ c.loop-k.invariant.put (omega (
        arith,
        c.loop-k-test.true,
      )) _
      c.in_ok-put_word.ensures.done;
}

pub walk-requires-clause-chain : goal.walk-requires-clause-chain
walk-requires-clause-chain g c = record {
  ready = c.requires.room.ready;
  leads = c.requires.lie.chain.leads;
}

pub returns-then-is_empty-clause-store : goal.returns-then-is_empty-clause-store
returns-then-is_empty-clause-store g c = record {
  sets = reads_sets _ _ _ (record { same_store = refl; reads = reads_same _ });
  ready = c.requires.room.ready;
  tells = c.requires.room.ready.works;
}
