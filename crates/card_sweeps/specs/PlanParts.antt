-- The effect of the parts of a sweep on the tally. No public clause names these definitions.
use Rattle.std.specs.Prelude.{◌≡◌, ◌-◌, ◌^◌, ℕ, List, Option, None, Some, Result, Ok, Err, IfOk, IfErr}
use Rattle.nvm_board.specs.Facts.{Facts}
use Rattle.command_base.specs.Finding.{HasCard}
use Rattle.card_sweeps.specs.declared.stop.SweepStop.{SweepStop}
use Rattle.card_sweeps.specs.declared.stop.SweepStop.TheVariants as stop
use Rattle.card_sweeps.specs.declared.sweeping.Halt.{Halt}
use Rattle.card_sweeps.specs.declared.sweeping.Halt.TheVariants as halt
use Rattle.card_sweeps.specs.declared.tally.Sweep.{Sweep}
use Rattle.card_sweeps.specs.declared.tally.SweepEnd.{SweepEnd}
use Rattle.card_sweeps.specs.declared.tally.SweepEnd.TheVariants.{Whole, Full, Differs}
use Rattle.card_sweeps.specs.declared.sweeping.AfterCut.{AfterCut}
use Rattle.card_sweeps.specs.declared.turn_cuts.TurnRuns.{TurnRuns}
use Rattle.card_sweeps.specs.Sweeps.{GivenByRun}
use Rattle.card_sweeps.specs.SweptRuns.{AreAllBehind, AreFirstBehind}
use Rattle.card_sweeps.specs.Tallies.{Finding, findings, Adds, CountsRuns}
use Rattle.card_sweeps.specs.TurnCuts.{swept_by}

-- the memory that the last write left, or that before any write
abbrev pub words_left : {B : Type 0} → (B → Facts) → List ℕ → Option B → List ℕ
words_left facts first None = first
words_left facts first (Some left) = (facts left).words

-- all runs after a cut
abbrev pub AllBehind : {B : Type 0} (facts : B → Facts) (torn : B → ℕ) → AfterCut → Facts → List Finding → Type 0
AllBehind facts torn after = AreAllBehind facts torn after.depth after.probe.now

-- the first runs after a cut, up to this end
abbrev pub FirstBehind : {B : Type 0} (facts : B → Facts) (torn : B → ℕ) → SweepEnd → AfterCut → Facts
    → List Finding → Type 0
FirstBehind facts torn end after = AreFirstBehind facts torn end after.depth after.probe.now

-- one of the runs of a turn has this finding
abbrev pub IsGivenBy : {B : Type 0} (facts : B → Facts) → TurnRuns B → AfterCut → Finding → Type 0
IsGivenBy facts runs after = GivenByRun (swept_by facts runs) after.probe.now after.depth

-- the halt of a sweep whose runs stop so
abbrev pub halt_of : SweepStop → Halt
halt_of stop.Memory = halt.Memory
halt_of stop.Differs = halt.Differs

-- A part of a sweep that stops early has counted the first of its runs, in order, if the board has a card state. If the
-- tally is full, no further run can be counted. With too little memory nothing is said.
pub record StopsEarly (Card : Type 0) (First : SweepEnd → List Finding → Type 0) (old new : Sweep) (h : Halt) : Type 0
  where
    pub full : h ≡ halt.Full → (new.runs ≡ 2 ^ 32 - 1)
        × (Card → CountsRuns (First Full) old.seen.items new.seen.items)
    pub differs : h ≡ halt.Differs → Card → CountsRuns (First Differs) old.seen.items new.seen.items

-- The effect of a part of a sweep on the tally, if the board has a card state. Each added finding is one of these. A
-- completed part has counted all its runs, in order.
pub record Sweeps {T : Type 0} (words : List ℕ) (Is : Finding → Type 0) (Are : T → List Finding → Type 0)
    (First : SweepEnd → List Finding → Type 0) (old new : Sweep) (result : Result T Halt) : Type 0 where
  pub given : HasCard words → Adds Is (findings old.seen.items) (findings new.seen.items)
  pub complete : IfOk result (λ x. HasCard words → CountsRuns (Are x) old.seen.items new.seen.items)
  pub early : IfErr result (λ h. StopsEarly (HasCard words) First old new h)

-- the end of a sweep whose counting came to this; with too little memory there is none
abbrev pub EndsBy : {T : Type 0} → Result T Halt → SweepEnd → Type 0
EndsBy (Ok x) end = end ≡ Whole
EndsBy (Err halt.Memory) end = ⊥
EndsBy (Err halt.Full) end = end ≡ Full
EndsBy (Err halt.Differs) end = end ≡ Differs
