use Rattle.std.proofs.Common.{◌≡◌, arith, slice_set, length}
use Rattle.std.proofs.lemmas.Result.{on_ok_weaker}
use Rattle.undo_journal.specs.declared.batch.Waiting.{Waiting}
use Rattle.undo_journal.specs.Memory.{current, Joins}
use Rattle.undo_journal.specs.Lent.{memory_of}
use Rattle.undo_journal.specs.laws.Calls.{runs_then, runs_weaker, sets_weaker}
use Rattle.undo_journal.specs.laws.Exits.{none_ok}
use Rattle.undo_journal.specs.laws.Told.{sets_in_on, sets_in_handed}
use Rattle.block_chain.specs.ChainChanges.{touched_blocks, touched_words}
use Rattle.ef_body.proofs.Putting.{puts}
use Rattle.ef_body.proofs.RecordWrites.{record-counted}
use Rattle.ef_body.proofs.writing.set_record.Goals as goal

pub set-requires-clause-room : goal.set-requires-clause-room
set-requires-clause-room g c =
    let left = c.set_bytes.ensures.store.sets.room in omega (arith, left, c.requires.room.enough)

pub returns-in_err-set_bytes-clause-store : goal.returns-in_err-set_bytes-clause-store
returns-in_err-set_bytes-clause-store g c =
    let words = touched_words c.args.offset (length c.args.bytes.now) in
    let failed = c.in_err-set_bytes.ensures.store in
    sets_in_handed _ _ _ _ _ c.from_residual.ensures.1
    (record { sets = sets_weaker words _ _ _ (omega arith) failed.sets; ready = tt; tells = failed.tells })

pub returns-clause-store : goal.returns-clause-store
returns-clause-store g c =
    sets_in_on (touched_words c.args.offset (length c.args.bytes.now)) 1 _ _ _ _ _ (omega arith)
    c.set_bytes.ensures.store.sets c.set.ensures.store

pub returns-clause-done : goal.returns-clause-done
returns-clause-done g c =
    let m = current (memory_of c.args.txn.now) in
    on_ok_weaker c.set.result (λ
    (done : current (memory_of c.set.new.self) ≡ slice_set (current (memory_of c.set_bytes.new.txn))
    c.args.counts_at c.args.new_counts).
    puts m (current (memory_of c.set_bytes.new.txn)) (current (memory_of c.set.new.self)) c.args.chain
    c.args.offset
    c.args.bytes.now c.args.counts_at c.args.new_counts c.requires.room.ready.current_size c.requires.lie.chain
    c.requires.entry
    c.in_ok-set_bytes.ensures.done done) c.set.ensures.done

pub returns-in_err-set_bytes-clause-runs : goal.returns-in_err-set_bytes-clause-runs
returns-in_err-set_bytes-clause-runs g c =
    runs_weaker (touched_blocks c.args.offset (length c.args.bytes.now)) _ _ _ (omega arith)
    c.in_err-set_bytes.ensures.runs

pub returns-clause-runs : goal.returns-clause-runs
returns-clause-runs g c =
    runs_then (touched_blocks c.args.offset (length c.args.bytes.now)) 1 _ _ _ _ (omega arith)
    c.set_bytes.ensures.runs
    c.set.ensures.store.sets.writes

pub returns-in_err-set_bytes-clause-counted : goal.returns-in_err-set_bytes-clause-counted
returns-in_err-set_bytes-clause-counted g c = none_ok _ _ _ c.from_residual.ensures.1

pub returns-clause-counted : goal.returns-clause-counted
returns-clause-counted g c =
    let put = c.in_ok-set_bytes.ensures in
    let set : Waiting = record { at = c.args.counts_at; word = c.args.new_counts } in
    on_ok_weaker c.set.result (λ (joins : Joins set (memory_of c.set_bytes.new.txn) (memory_of c.set.new.self)).
    λ idle. record-counted c.args.offset (length c.args.bytes.now) set (memory_of c.args.txn.now)
    (memory_of c.set_bytes.new.txn) (memory_of c.set.new.self) c.requires.entry (put.counted idle) (put.waits idle)
    joins) c.set.ensures.joins

pub set_bytes-requires-clause-room : goal.set_bytes-requires-clause-room
set_bytes-requires-clause-room g c = record {
  ready = c.requires.room.ready;
  enough = omega (arith, c.requires.room.enough);
}
