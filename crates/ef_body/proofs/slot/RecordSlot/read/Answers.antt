use Rattle.std.proofs.Common.{rules}
use Rattle.undo_journal.specs.Memory.{committed}
use Rattle.ef_body.proofs.Resting.{first_is, has_blocks}
use Rattle.ef_body.proofs.slot.RecordSlot.read.Goals as goal

pub read_from-requires : goal.read_from-requires
read_from-requires g c =
    let m = committed c.args.store.now in
    let ring = c.args.self.ring in (
      search rules,
      (
        c.requires.body,
        (
          c.requires.room,
          first_is m ring.chain c.requires.body.body.slots.chain.leads c.first_of-block.result
              c.first_of-block.ensures.number c.first_of-block.ensures.page (has_blocks m ring c.requires.body.body),
        ),
      ),
    )

pub returns : goal.returns
returns g c = c.read_from.ensures.record
