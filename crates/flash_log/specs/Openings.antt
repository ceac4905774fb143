-- Why a flash is not taken.
use Rattle.std.specs.Prelude.{◌≡◌, ℕ}
use Rattle.flash_log.specs.declared.flash_log.FlashFault.{FlashFault}
use Rattle.flash_log.specs.declared.flash_log.FlashFault.TheVariants.{NoLog, PowerLost, Fault}
use Rattle.flash_device.specs.FlashCalls.{FlashState, GoesOut, HasFailed}
use Rattle.flash_moves.specs.Rings.{IsRing}

-- It has no log, and nothing changed; power was lost; or it failed. No word changed.
abbrev pub OpenStopsBy : ℕ → FlashFault → FlashState → FlashState → Type 0
OpenStopsBy slots NoLog old new = (new ≡ old) × ¬ IsRing slots old.words
OpenStopsBy slots PowerLost old new = GoesOut old new × (new.words ≡ old.words)
OpenStopsBy slots Fault old new = HasFailed old new × (new.words ≡ old.words)
