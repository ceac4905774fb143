use Rattle.std.proofs.Common.{sym, subst}
use Rattle.undo_journal.specs.Memory.{committed}
use Rattle.ef_body.specs.declared.layout.TheConstants.{RECORD_WRITES}
use Rattle.ef_body.specs.Bodies.{cyclic_body_records}
use Rattle.ef_contents.specs.BodyCalls.{Commits}
use Rattle.content_commands.specs.declared.record_file.Room.{Room}
use Rattle.content_commands.specs.RecordParts.{appended_in, ring_room, wraps_room, RingBecomes}
use Rattle.content_commands.proofs.record_file.Room.fill.Goals as goal

pub returns-in-Behind : goal.returns-in-Behind
returns-in-Behind g c =
    let m = committed c.args.store.now in
    subst (λ (room : Room). Commits (RingBecomes (wraps_room room) m (ring_room room) (appended_in (wraps_room room)
    (ring_room room).capacity (cyclic_body_records m (ring_room room)) c.args.bytes.now)) RECORD_WRITES c.args.store.now
    c.append.new.store c.append.result) (sym c.in-Behind.is) c.append.ensures.commits

pub returns-in-InFront : goal.returns-in-InFront
returns-in-InFront g c =
    let m = committed c.args.store.now in
    subst (λ (room : Room). Commits (RingBecomes (wraps_room room) m (ring_room room) (appended_in (wraps_room room)
    (ring_room room).capacity (cyclic_body_records m (ring_room room)) c.args.bytes.now)) RECORD_WRITES c.args.store.now
    c.push_front.new.store c.push_front.result) (sym c.in-InFront.is) c.push_front.ensures.commits
