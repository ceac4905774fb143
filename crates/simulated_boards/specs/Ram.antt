-- The facts of a board in working memory, which has no faults and no cuts to come.
use Rattle.std.specs.Prelude.{None, true}
use Rattle.simulated_boards.specs.declared.ram_board.RamBoard.{RamBoard}
use Rattle.nvm_board.specs.Facts.{Facts}

abbrev pub ram_facts : RamBoard → Facts
ram_facts b = record {
  words = b.words.items;
  dark = b.dark;
  due = 0;
  pending = None;
  masks = true;
  faults = 0;
  cuts = b.cuts;
  writes = b.writes;
  compares = b.compares;
  matches = b.matches;
  log = None;
}
