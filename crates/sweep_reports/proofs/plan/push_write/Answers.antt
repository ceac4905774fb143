use Rattle.std.proofs.Common.{◌≡◌, arith}
use Rattle.card_sweeps.specs.Masks.{mask_count_of}
use Rattle.sweep_reports.proofs.Put.{in-turn-next, in-turn-none}
use Rattle.sweep_reports.proofs.plan.push_write.Goals as goal

pub loop-i-init : goal.loop-i-init
loop-i-init g c = λ card. in-turn-none _ _

pub loop-i-preserved : goal.loop-i-preserved
loop-i-preserved g c = λ card. in-turn-next _ _ _ _ _ (c.loop-i.invariant card) (c.in_ok-push_mask.ensures card)

pub returns-clause-text : goal.returns-clause-text
returns-clause-text g c = λ card.
    let end : c.loop-i.i ≡ mask_count_of c.in-Some.made.words =
    omega (arith, c.loop-i-test.false, c.loop-i.auto.i-end, c.mask_count-i-end.ensures) in
    rw end at (c.loop-i.invariant card)
