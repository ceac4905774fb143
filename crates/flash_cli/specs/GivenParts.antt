-- The flash that a command line gives.
use Rattle.std.specs.Prelude.{◌≡◌, true, false, if◌then◌else◌}
use Rattle.simulated_flashes.specs.KeptFlashes.{kept_flash_state}
use Rattle.simulated_flashes.specs.declared.kept_flash.KeptFlash.{KeptFlash}
use Rattle.card_boards.specs.FlashImages.{FlashKind, HasCardOnFlash, large_kind, small_kind}
use Rattle.card_files.specs.FlashFiles.{IsFlashOf, IsSeededFlash}
use Rattle.card_files.specs.declared.kept_file.KeptFile.{KeptFile}
use Rattle.flash_cli.specs.declared.given.AnyFlash.{AnyFlash}
use Rattle.flash_cli.specs.declared.given.AnyFlash.TheVariants as any_flash
use Rattle.flash_cli.specs.declared.given.Given.{Given}

-- the kind of the flash that is given
abbrev pub given_kind : Given → FlashKind
given_kind given = if given.small then small_kind else large_kind

-- A flash of a kind is the one that is asked for, has a card, and leaves the garbage of the seed.
pub record HoldsGiven {S : Type 0} {g : _} (kind : FlashKind) (given : Given) (flash : KeptFlash KeptFile S g) : Type 0
  where
    pub asked_for : IsFlashOf kind given.asked flash
    pub seeded : IsSeededFlash given.seed flash
    pub card : HasCardOnFlash kind (kept_flash_state flash).words

-- The flash has small sectors exactly if these are given, and is the one that is given.
abbrev pub IsGivenFlash : Given → AnyFlash → Type 0
IsGivenFlash given (any_flash.Large flash) = (given.small ≡ false) × HoldsGiven large_kind given flash
IsGivenFlash given (any_flash.Small flash) = (given.small ≡ true) × HoldsGiven small_kind given flash
