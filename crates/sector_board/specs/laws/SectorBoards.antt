-- A board on a flash with small sectors is one.
use Rattle.nvm_board.specs.Facts.{IsBoard}
use Rattle.sector_board.specs.declared.sector_board.SectorBoard.{SectorBoard}
use Rattle.sector_board.specs.SectorFacts.{sector_facts}

pub sector_is_board : {F T : Type 0} {g : _} {h : _} (b : SectorBoard F T g h) → IsBoard (sector_facts b)
sector_is_board b = record {
  sized = b.memory;
  words_fit = b.words_fit;
  counted = (b.compares_counted, b.matches_counted);
  counts_fit = record {
    faults = b.faults_fit;
    cuts = b.cuts_fit;
    writes = b.writes_fit;
    compares = b.compares_fit;
    matches = b.matches_fit;
  };
  may_go = b.may_go;
}
