-- The turns at the bench that steps stand for.
use Rattle.std.specs.Prelude.{◌≡◌, ℕ, List, [], ◌∷◌}
use Rattle.core.specs.Borrow.{Bor}
use Rattle.bench_turns.specs.declared.turn.Turn.{Turn}
use Rattle.bench_turns.specs.declared.turn.Turn.TheVariants as turn
use Rattle.card_sweeps.specs.declared.steps.Step.{Step}
use Rattle.card_sweeps.specs.declared.steps.Step.TheVariants.{On, Off, Block}

-- the turn of a step; it borrows the bytes of the block
abbrev pub IsTurn : Step → Turn → Type 0
IsTurn On t = t ≡ turn.On
IsTurn Off t = t ≡ turn.Off
IsTurn (Block bytes) t = (got : Bor (List ℕ)) × (t ≡ turn.Block got) × (got.now ≡ bytes)

-- the turns of steps, in order
unfoldable pub AreTurns : List Step → List Turn → Type 0
AreTurns [] [] = Unit {0}
AreTurns [] (t ∷ ts) = ⊥
AreTurns (s ∷ ss) [] = ⊥
AreTurns (s ∷ ss) (t ∷ ts) = IsTurn s t × AreTurns ss ts
