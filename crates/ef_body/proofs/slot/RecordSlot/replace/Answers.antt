use Rattle.std.proofs.Common.{◌≤◌, ◌*◌, ◌∙◌, ℕ, ap, arith, length}
use Rattle.undo_journal.specs.Memory.{committed}
use Rattle.undo_journal.specs.Spending.{transaction_writes}
use Rattle.block_chain.specs.Chains.{chain_of}
use Rattle.block_chain.specs.ChainChanges.{Overwrites, touched_words, touched_blocks}
use Rattle.chain_bytes.specs.Writes.{put_writes}
use Rattle.ef_contents.specs.BodyCalls.{Commits}
use Rattle.ef_body.specs.BodyChanges.{slot_offset}
use Rattle.ef_body.proofs.Becoming.{ring_put, slot_lies}
use Rattle.ef_contents.specs.laws.Calling.{commits_weaker, commits_within, counted_at}
use Rattle.chain_bytes.specs.laws.Touching.{touched_few, touched_few_blocks}
use Rattle.ef_body.proofs.slot.RecordSlot.replace.Goals as goal

pub returns-clause-commits : goal.returns-clause-commits
returns-clause-commits g c =
    let slot = c.args.self in
    let short = c.requires.body.body.slots.short in
    let few : length c.args.bytes.now ≤ 255 = omega (arith, short, c.requires.body.size) in
    let words = touched_few c.offset_of-offset.result (length c.args.bytes.now) few in
    let blocks = touched_few_blocks c.offset_of-offset.result (length c.args.bytes.now) few in
    let m = committed c.args.store.now in
    let offset = c.offset_of-offset.result in
    let put : Commits (Overwrites m (chain_of m slot.ring.chain) offset c.args.bytes.now)
    (transaction_writes (touched_words offset (length c.args.bytes.now))
    (touched_blocks offset (length c.args.bytes.now)))
    c.args.store.now c.put_bytes.new.store c.put_bytes.result = record {
      any_exit = c.put_bytes.ensures.any_exit;
      done = c.put_bytes.ensures.done;
      by_gate = c.put_bytes.ensures.by_gate;
      turned = c.put_bytes.ensures.turned;
      store = c.put_bytes.ensures.store;
    } in
    commits_weaker _ _ _ c.put_bytes.result _ _
    (ring_put (committed c.args.store.now) (committed c.put_bytes.new.store) slot.ring slot.number c.args.bytes.now
    c.requires.body.ready.usable.committed_size c.requires.body.body c.requires.body.size slot.from_first slot.to_last
    c.slot_of.result c.offset_of-offset.result c.slot_of.ensures.slot c.offset_of-offset.ensures)
    (commits_within _ _ _ _ _ _ (omega (arith, words, blocks)) put)

pub returns-clause-counted : goal.returns-clause-counted
returns-clause-counted g c =
    let slot = c.slot_of.ensures.slot in
    counted_at c.put_bytes.result (λ (at : ℕ). put_writes at (length c.args.bytes.now)) _ _ _
    (slot_offset c.args.self.ring c.args.self.number)
    (c.offset_of-offset.ensures ∙ ap (λ (s : ℕ). s * c.args.self.ring.record_length) slot)
    c.put_bytes.ensures.counted

pub put_bytes-requires : goal.put_bytes-requires
put_bytes-requires g c = record {
  ready = c.requires.body.ready;
  lie = slot_lies (committed c.args.store.now) c.args.self.ring c.args.bytes.now c.requires.body.body
      c.requires.body.size
      c.slot_of.result _
      c.slot_of.ensures.within c.offset_of-offset.ensures;
  few = let short = c.requires.body.body.slots.short in omega (arith, short, c.requires.body.size);
}
