use Rattle.std.proofs.Common.{take}
use Rattle.card_sweeps.specs.Turning.{AreTurns}
use Rattle.card_sweeps.proofs.steps.turns_of.Given as goal

abbrev pub invariant-loop-step : goal.invariant-loop-step
invariant-loop-step l = AreTurns (take l.step-index l.steps) l.turns.items
