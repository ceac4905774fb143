-- What follows the flash of a board.
use Rattle.std.specs.Prelude.{Bool}
use Rattle.flash_board.specs.declared.flash_board.FlashBoard.{FlashBoard}

-- true if what follows the flash of a board has all its operations, or if there was never such a thing
abbrev pub board_is_kept : {F T : Type 0} {g : _} {h : _} → FlashBoard F T g h → Bool
board_is_kept b = b.log.flash.kept
