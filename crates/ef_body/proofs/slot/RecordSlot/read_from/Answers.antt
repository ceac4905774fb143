use Rattle.std.proofs.Common.{rules, ◌≤◌, ◌∙◌, ◌+◌, ◌*◌, ℕ, List, length, take, drop, ap, sym, subst, ◌%◌}
use Rattle.std.proofs.lemmas.Result.{on_ok_weaker}
use Rattle.undo_journal.specs.Memory.{committed}
use Rattle.undo_journal.specs.laws.Told.{reads_handed, reads_on}
use Rattle.block_chain.specs.Chains.{Leads, chain, chain_of, bytes_of}
use Rattle.block_chain.specs.declared.layout.TheConstants.{BLOCK_BYTES}
use Rattle.ef_contents.specs.BodyCalls.{ReadsInto}
use Rattle.ef_contents.specs.laws.Slots.{slot-within}
use Rattle.ef_body.proofs.Becoming.{record_at}
use Rattle.ef_contents.specs.laws.Buffers.{all_appended, length-emptied, some_appended}
use Rattle.ef_body.proofs.Resting.{buffer_holds, bytes_on, rest_holds, rest_of, rest_small}
use Rattle.ef_body.proofs.slot.RecordSlot.read_from.Goals as goal

pub read_bytes-requires : goal.read_bytes-requires
read_bytes-requires g c =
    let m = committed c.args.store.now in
    let ring = c.args.self.ring in
    let block = c.in_ok-block.field-0 in
    let same = c.go_to.ensures.store.only.keeps.committed_words in
    let rest = rest_of m ring.chain c.requires.body.body.slots.chain.leads block c.in_ok-block.ensures.block in
    let offset = c.offset_of-offset.result in
    let inside = slot-within ring.record_length c.slot_of.result ring.capacity c.slot_of.ensures.within in
    let holds = rest_holds offset c.slot_of.result ring.record_length ring.capacity (length (chain_of m ring.chain))
    (length (chain m block.page)) block.number c.offset_of-offset.ensures inside c.requires.body.body.slots.fits
    c.in_ok-block.ensures.number rest.size in (
      search rules,
      (
        record {
          ready = c.in_ok-block.ensures.store.ready;
          leads = subst (λ (l : List ℕ). Leads l block.page (chain l block.page) 0) (sym same) rest.leads;
        },
        (
          subst (λ (l : List ℕ). offset % BLOCK_BYTES + ring.record_length ≤ BLOCK_BYTES * length (chain l block.page))
              (sym same) holds,
          (
            rest_small offset ring.record_length c.requires.body.body.slots.short,
            buffer_holds _ ring.record_length _ (length-emptied _ c.clear.ensures) c.requires.room,
          ),
        ),
      ),
    )

pub returns-in_err-block-clause-record : goal.returns-in_err-block-clause-record
returns-in_err-block-clause-record g c = record {
  bytes = search rules;
  any_exit = record { some = 0; is = c.clear.ensures };
  store = reads_handed _ _ _ _ c.from_residual.ensures.1 c.in_err-block.ensures.store;
}

pub returns-clause-record : goal.returns-clause-record
returns-clause-record g c =
    let m = committed c.args.store.now in
    let slot = c.args.self in
    let ring = slot.ring in
    let block = c.in_ok-block.field-0 in
    let offset = c.offset_of-offset.result in
    let same = c.go_to.ensures.store.only.keeps.committed_words in
    let bytes = ap
    (λ (l : List ℕ). take ring.record_length (drop (offset % BLOCK_BYTES) (bytes_of l (chain l block.page)))) same
    ∙ bytes_on m ring.chain c.requires.body.body.slots.chain.leads block offset ring.record_length
    c.requires.body.ready.usable.committed_size c.in_ok-block.ensures.block c.in_ok-block.ensures.number
    ∙ record_at m ring slot.number c.requires.body.body slot.from_first slot.to_last
    c.slot_of.result _ c.slot_of.ensures.slot c.offset_of-offset.ensures in
    subst (λ (l : List ℕ). ReadsInto l c.args.store.now c.read_bytes.new.store c.read_bytes.new.out.items
    c.read_bytes.result) bytes (record {
      bytes = on_ok_weaker c.read_bytes.result (all_appended _ _ _ c.clear.ensures) c.read_bytes.ensures.done;
      any_exit = some_appended _ _ _ c.clear.ensures c.read_bytes.ensures.any_exit;
      store = reads_on _ _ _ _ c.go_to.ensures.store.only c.read_bytes.ensures.store;
    })

pub go_to-requires-clause-chain : goal.go_to-requires-clause-chain
go_to-requires-clause-chain g c = record {
  ready = c.requires.body.ready;
  leads = c.requires.body.body.slots.chain.leads;
}
