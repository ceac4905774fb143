use Rattle.std.proofs.Common.{◌+◌, [], subst, sym, take}
use Rattle.card_sweeps.specs.declared.steps.Step.{Step}
use Rattle.card_sweeps.specs.Turning.{AreTurns, IsTurn}
use Rattle.card_sweeps.proofs.Turned.{are-turns-next, are-turns-none}
use Rattle.card_sweeps.proofs.steps.turns_of.Goals as goal

pub loop-step-init : goal.loop-step-init
loop-step-init c = subst (AreTurns []) (sym c.new-turns.ensures.items) are-turns-none

pub loop-step-preserved : goal.loop-step-preserved
loop-step-preserved c =
    subst (AreTurns (take (c.loop-step.step-index + 1) c.args.steps.now)) (sym c.in_ok-push.ensures.items)
    (are-turns-next _ _ c.loop-step.step-index c.step-item.result _ c.loop-step-test.true c.loop-step.invariant
    (subst (λ (s : Step). IsTurn s c.turn_of.result) c.step-item.is c.turn_of.ensures))
