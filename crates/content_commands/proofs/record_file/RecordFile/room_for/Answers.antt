use Rattle.std.proofs.Common.{◌==◌, true, length, sym, ◌∙◌, ap}
use Rattle.std.specs.Result.{result_err}
use Rattle.card_model.specs.declared.status.TheConstants.Sw.{NO_ROOM}
use Rattle.content_commands.specs.RecordParts.{is_full_in}
use Rattle.content_commands.proofs.RecordWrites.{record_verdict, verdict-first, verdict-free}
use Rattle.command_base.specs.laws.Stopping.{err-is}
use Rattle.content_commands.proofs.record_file.RecordFile.room_for.Goals as goal

pub returns-in_err-room-clause-refusal : goal.returns-in_err-room-clause-refusal
returns-in_err-room-clause-refusal c =
    let file = c.args.self.now in
    ap result_err (err-is _ _ c.from_residual.ensures.1)
    ∙ sym (verdict-first (is_full_in file) NO_ROOM (length c.args.bytes.now == file.ring.record_length)
    c.in_err-room.field-0.0 (sym c.in_err-room.ensures.refusal))

pub returns-then-not-takes-clause-refusal : goal.returns-then-not-takes-clause-refusal
returns-then-not-takes-clause-refusal c =
    let full = (verdict-free (is_full_in c.args.self.now) NO_ROOM true (sym c.in_ok-room.ensures.refusal)).0 in
    let long = sym c.takes.ensures ∙ c.if-not-takes.true in
    sym (λ i. record_verdict (full i) NO_ROOM (long i))

pub returns-clause-refusal : goal.returns-clause-refusal
returns-clause-refusal c =
    let full = (verdict-free (is_full_in c.args.self.now) NO_ROOM true (sym c.in_ok-room.ensures.refusal)).0 in
    let long = sym c.takes.ensures ∙ c.if-not-takes.false in
    sym (λ i. record_verdict (full i) NO_ROOM (long i))
