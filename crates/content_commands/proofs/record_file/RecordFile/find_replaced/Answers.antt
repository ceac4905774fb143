use Rattle.std.proofs.Common.{[], ◌==◌, ◌&&◌, None, Some, not, nat_le, length, if◌then◌else◌, replicate, sym, ◌∙◌, ap}
use Rattle.std.proofs.lemmas.List.{length-replicate}
use Rattle.std.specs.Result.{result_err}
use Rattle.card_model.specs.declared.status.TheConstants.Sw.{RECORD_NOT_FOUND}
use Rattle.content_commands.specs.RecordParts.{has_in}
use Rattle.content_commands.proofs.RecordBodies.{has-slot}
use Rattle.content_commands.proofs.RecordSteps.{gone-status}
use Rattle.content_commands.proofs.RecordWrites.{record_verdict, verdict-first}
use Rattle.command_base.specs.laws.Stopping.{err-is}
use Rattle.content_commands.proofs.record_file.RecordFile.find_replaced.Goals as goal

pub returns-in_err-slot-clause-refusal : goal.returns-in_err-slot-clause-refusal
returns-in_err-slot-clause-refusal c =
    let ring = c.args.self.now.ring in
    let count = length-replicate ring.records [] in
    let number = c.replaced.ensures in
    let status = c.in_err-slot.field-0.0 in
    let gone = (λ i. if nat_le 1 (sym number i) && nat_le (sym number i) (sym count i) then None
    else Some RECORD_NOT_FOUND) ∙ c.in_err-slot.ensures.refusal (replicate ring.records []) count in
    ap result_err (err-is _ _ c.from_residual.ensures.1)
    ∙ sym (verdict-first _ RECORD_NOT_FOUND (length c.args.bytes.now == ring.record_length) status
    (gone-status _ status gone))

pub returns-then-not-takes-clause-refusal : goal.returns-then-not-takes-clause-refusal
returns-then-not-takes-clause-refusal c =
    let found = c.in_ok-slot.ensures.found in
    let number = found.1 ∙ c.replaced.ensures in
    let has = (λ i. has_in (sym found.0 i) (sym number i)) ∙ has-slot c.in_ok-slot.slot in
    let long = sym c.takes.ensures ∙ c.if-not-takes.true in
    sym (λ i. record_verdict (not (has i)) RECORD_NOT_FOUND (long i))

pub returns-clause-refusal : goal.returns-clause-refusal
returns-clause-refusal c =
    let found = c.in_ok-slot.ensures.found in
    let number = found.1 ∙ c.replaced.ensures in
    let has = (λ i. has_in (sym found.0 i) (sym number i)) ∙ has-slot c.in_ok-slot.slot in
    let long = sym c.takes.ensures ∙ c.if-not-takes.false in
    sym (λ i. record_verdict (not (has i)) RECORD_NOT_FOUND (long i))
