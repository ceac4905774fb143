use Rattle.std.proofs.Common.{◌&&◌, Bool, None, Some, not, nat_le, if◌then◌else◌, sym, ◌∙◌, ap}
use Rattle.std.specs.Result.{result_err}
use Rattle.card_model.specs.declared.status.TheConstants.Sw.{NO_ROOM}
use Rattle.command_base.specs.laws.Stopping.{err-is}
use Rattle.content_commands.proofs.record_file.RecordFile.find_room.Goals as goal

pub returns-in_err-slot-clause-refusal : goal.returns-in_err-slot-clause-refusal
returns-in_err-slot-clause-refusal c =
    let ring = c.args.self.now.ring in
    ap result_err (err-is _ _ c.from_residual.ensures.1) ∙ c.in_err-slot.ensures.refusal
    ∙ sym (ap (λ (wraps : Bool). if not wraps && nat_le ring.capacity ring.records then Some NO_ROOM else None)
    c.if-self.false)
