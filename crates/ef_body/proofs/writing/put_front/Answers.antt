use Rattle.std.proofs.Common.{◌*◌, ◌∙◌, ℕ, ap, length, arith}
use Rattle.undo_journal.specs.Memory.{committed}
use Rattle.ef_body.specs.BodyChanges.{record_put_writes, slot_offset}
use Rattle.ef_body.proofs.Becoming.{cyclic_front, slot_lies}
use Rattle.ef_contents.specs.laws.Calling.{commits_weaker, counted_at}
use Rattle.ef_body.proofs.writing.put_front.Goals as goal

pub returns-clause-commits : goal.returns-clause-commits
returns-clause-commits g c =
    commits_weaker _ _ _ c.put_record.result _ _
    (cyclic_front (committed c.args.store.now) (committed c.put_record.new.store) c.args.body c.args.bytes.now
    c.args.records c.requires.body.ready.usable.committed_size c.requires.body.body c.requires.body.size c.requires.some
    c.requires.most c.requires.more c.slot_of-start.result c.offset_of-offset.result c.counts-new_counts.result
    c.slot_of-start.ensures.slot c.offset_of-offset.ensures c.counts-new_counts.ensures) c.put_record.ensures.commits

pub returns-clause-counted : goal.returns-clause-counted
returns-clause-counted g c =
    let slot = c.slot_of-start.ensures.slot in
    counted_at c.put_record.result (λ (at : ℕ). record_put_writes at (length c.args.bytes.now)) _ _ _
    (slot_offset c.args.body c.args.body.capacity)
    (c.offset_of-offset.ensures ∙ ap (λ (s : ℕ). s * c.args.body.record_length) slot)
    c.put_record.ensures.counted

pub put_record-requires-clause-bytes : goal.put_record-requires-clause-bytes
put_record-requires-clause-bytes g c = record {
  ready = c.requires.body.ready;
  lie = slot_lies (committed c.args.store.now) c.args.body c.args.bytes.now c.requires.body.body c.requires.body.size
      c.slot_of-start.result _
      c.slot_of-start.ensures.within c.offset_of-offset.ensures;
  few = let short = c.requires.body.body.slots.short in omega (arith, short, c.requires.body.size);
}
