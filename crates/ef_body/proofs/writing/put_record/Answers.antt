use Rattle.std.specs.Prelude.{◌+◌, length}
use Rattle.std.proofs.Common.{ℕ, List, sym, ◌∙◌, subst, arith}
use Rattle.undo_journal.specs.Lent.{memory_of}
use Rattle.undo_journal.specs.Memory.{Memory, IsOpen}
use Rattle.undo_journal.specs.laws.Endings.{ends, ends_answered, ends_by_gate, ends_counted, ends_done, ends_turned}
use Rattle.undo_journal.specs.laws.Transactions.{begun}
use Rattle.block_chain.specs.ChainChanges.{touched_words, touched_blocks}
use Rattle.ef_body.specs.declared.layout.TheConstants.{RECORD_WRITES}
use Rattle.ef_body.specs.BodyChanges.{record_put_writes, PutsRecord}
use Rattle.chain_bytes.specs.laws.Touching.{touched_few, touched_few_blocks}
use Rattle.block_links.specs.StoredBlocks.{LieIn}
use Rattle.ef_body.proofs.writing.put_record.Goals as goal

pub set_record-work-requires-clause-lie : goal.set_record-work-requires-clause-lie
set_record-work-requires-clause-lie g c =
    subst (λ (m : List ℕ). LieIn m c.args.chain c.args.offset (length c.args.bytes.now))
    (begun c.args.store.now (memory_of c.begin-txn.result) c.begin-txn.ensures.same c.requires.bytes.ready)
    c.requires.bytes.lie

pub returns-clause-commits : goal.returns-clause-commits
returns-clause-commits g c =
    let set = c.set_record-work.ensures in
    let last = c.store-1.given.1 (sym (set.store.sets.same_store ∙ c.begin-txn.ensures.same_store)) in
    let most = touched_few c.args.offset (length c.args.bytes.now) c.requires.bytes.few in
    let blocks = touched_few_blocks c.args.offset (length c.args.bytes.now) c.requires.bytes.few in
    record {
      any_exit = ends (λ m after. PutsRecord m c.args.chain c.args.offset c.args.bytes.now c.args.counts_at
          c.args.new_counts
          after)
          _ c.set_record-work.result _ _ (memory_of c.set_record-work.new.txn) _ _ c.begin-txn.ensures.same last
          c.requires.bytes.ready set.store.sets.kept set.done c.end.ensures.any_exit;
      done = ends_done (λ m after. PutsRecord m c.args.chain c.args.offset c.args.bytes.now c.args.counts_at
          c.args.new_counts after)
          c.set_record-work.result c.end.result _ _ (memory_of c.set_record-work.new.txn) _ _
          c.begin-txn.ensures.same last
          c.requires.bytes.ready set.done c.end.ensures.answered c.end.ensures.done;
      by_gate = ends_by_gate _ _ _ _ (memory_of c.set_record-work.new.txn) _ _ c.begin-txn.ensures.same last
          set.store.sets.kept
          c.end.ensures.any_exit;
      turned = ends_turned (λ m after. PutsRecord m c.args.chain c.args.offset c.args.bytes.now c.args.counts_at
          c.args.new_counts after)
          c.set_record-work.result _ _ (memory_of c.set_record-work.new.txn) _ _ c.begin-txn.ensures.same last
          c.requires.bytes.ready set.store.sets.rises set.done set.store.tells c.end.ensures.store.reports
          c.end.ensures.turned;
      store = ends_answered (touched_words c.args.offset (length c.args.bytes.now) + 1)
          (touched_blocks c.args.offset (length c.args.bytes.now) + 1) RECORD_WRITES
          c.set_record-work.result c.end.result _ _ (memory_of c.set_record-work.new.txn) _ _
          (omega (arith, most, blocks))
          c.begin-txn.ensures.same last c.requires.bytes.ready set.store.sets.taken set.store.sets.reports set.runs
          set.store.tells
          c.end.ensures.store c.end.ensures.answered;
    }

pub returns-clause-counted : goal.returns-clause-counted
returns-clause-counted g c =
    let set = c.set_record-work.ensures in
    let last = c.store-1.given.1 (sym (set.store.sets.same_store ∙ c.begin-txn.ensures.same_store)) in
    ends_counted (record_put_writes c.args.offset (length c.args.bytes.now)) c.set_record-work.result
    c.end.result _ _ (memory_of c.set_record-work.new.txn) _ _ c.begin-txn.ensures.same last
    c.requires.bytes.ready set.counted c.end.ensures.answered c.end.ensures.counted

pub set_record-work-requires-clause-room : goal.set_record-work-requires-clause-room
set_record-work-requires-clause-room g c = record {
  ready = subst (λ (m : Memory). IsOpen m) (sym c.begin-txn.ensures.same) c.requires.bytes.ready.usable;
  enough = let most = touched_few c.args.offset (length c.args.bytes.now) c.requires.bytes.few in
      let blocks = touched_few_blocks c.args.offset (length c.args.bytes.now) c.requires.bytes.few in
      omega (arith, most, c.begin-txn.ensures.room);
}
