-- The facts of a board on a flash with small sectors. The words of a torn write are all old or all new, whatever the
-- mask.
use Rattle.std.specs.Prelude.{None, false}
use Rattle.sector_board.specs.declared.sector_board.SectorBoard.{SectorBoard}
use Rattle.nvm_board.specs.Facts.{Facts}
use Rattle.sector_log.specs.SectorLogs.{SectorLogState}

abbrev pub sector_facts : {F T : Type 0} {g : _} {h : _} → SectorBoard F T g h → Facts
sector_facts b = record {
  words = b.log.flash.words;
  dark = b.dark;
  due = b.log.flash.due;
  pending = None;
  masks = false;
  faults = b.faults;
  cuts = b.cuts;
  writes = b.writes;
  compares = b.compares;
  matches = b.matches;
  log = None;
}

-- what contracts know of the log of a board
abbrev pub sector_state : {F T : Type 0} {g : _} {h : _} → SectorBoard F T g h → SectorLogState
sector_state b = b.log
