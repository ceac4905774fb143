-- What follows the flash of a board with small sectors.
use Rattle.std.specs.Prelude.{Bool}
use Rattle.sector_board.specs.declared.sector_board.SectorBoard.{SectorBoard}

-- true if what follows the flash of a board has all its operations, or if there was never such a thing
abbrev pub sector_board_is_kept : {F T : Type 0} {g : _} {h : _} → SectorBoard F T g h → Bool
sector_board_is_kept b = b.log.flash.kept
