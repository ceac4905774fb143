-- Why a flash with small sectors is not taken.
use Rattle.std.specs.Prelude.{◌≡◌, ℕ, List}
use Rattle.flash_device.specs.FlashCalls.{FlashState, GoesOut, HasFailed, StaysLit}
use Rattle.flash_moves.specs.Rings.{IsRing}
use Rattle.sector_moves.specs.SectorSpares.{HasRoomForSteps}
use Rattle.sector_log.specs.declared.opening.SectorFault.{SectorFault}
use Rattle.sector_log.specs.declared.opening.SectorFault.TheVariants.{NoLog, OutOfStep, PowerLost, Fault}

-- Why the words of a flash are not taken: they have no log, or one that isn't in step.
abbrev pub IsNotInStep : ℕ → ℕ → ℕ → (ℕ → ℕ) → List ℕ → SectorFault → Type 0
IsNotInStep pages slots sectors start m NoLog = ¬ IsRing slots m
IsNotInStep pages slots sectors start m OutOfStep = IsRing slots m × ¬ HasRoomForSteps pages slots sectors start m 0
IsNotInStep pages slots sectors start m PowerLost = ⊥
IsNotInStep pages slots sectors start m Fault = ⊥

-- Why a flash is not taken: its words are not, power was lost, or it failed. No word changed.
abbrev pub SectorOpenStopsBy : ℕ → ℕ → ℕ → (ℕ → ℕ) → SectorFault → FlashState → FlashState → Type 0
SectorOpenStopsBy pages slots sectors start NoLog old new = StaysLit old new × (new.words ≡ old.words)
    × IsNotInStep pages slots sectors start old.words NoLog
SectorOpenStopsBy pages slots sectors start OutOfStep old new = StaysLit old new × (new.words ≡ old.words)
    × IsNotInStep pages slots sectors start old.words OutOfStep
SectorOpenStopsBy pages slots sectors start PowerLost old new = GoesOut old new × (new.words ≡ old.words)
SectorOpenStopsBy pages slots sectors start Fault old new = HasFailed old new × (new.words ≡ old.words)
