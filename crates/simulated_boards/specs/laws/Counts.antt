-- What the boards in working memory are known to be.
use Rattle.std.specs.Prelude.{◌≤◌, ℕ, Option}
use Rattle.std.proofs.Common.{arith}
use Rattle.nvm_board.specs.declared.board.Arm.{Arm}
use Rattle.nvm_board.specs.declared.board.TheConstants.{COUNT_END}
use Rattle.simulated_boards.specs.declared.ram_board.RamBoard.{RamBoard}
use Rattle.simulated_boards.specs.declared.cut_board.CutBoard.{CutBoard}
use Rattle.simulated_boards.specs.declared.fault_board.FaultBoard.{FaultBoard}
use Rattle.nvm_board.specs.Facts.{Facts, IsBoard}
use Rattle.nvm_board.specs.laws.Sizes.{memory_of_pages}
use Rattle.simulated_boards.specs.Ram.{ram_facts}
use Rattle.simulated_boards.specs.Cut.{cut_facts}
use Rattle.simulated_boards.specs.Faulty.{fault_facts}

-- a board in working memory is one
pub ram_is_board : (b : RamBoard) → IsBoard (ram_facts b)
ram_is_board b = record {
  sized = (memory_of_pages (ram_facts b).words b.pages b.least b.most b.sized).0;
  words_fit = b.words_fit;
  counted = (b.compares_counted, b.matches_counted);
  counts_fit = record {
    faults = omega arith;
    cuts = b.cuts_fit;
    writes = b.writes_fit;
    compares = b.compares_fit;
    matches = b.matches_fit;
  };
  may_go = b.may_go;
}

-- and so it is with something to come, and with faults counted
pub is_board_with : (f : Facts) (due : ℕ) (pending : Option Arm) (faults : ℕ) → faults ≤ COUNT_END → IsBoard f
    → IsBoard (record f { due = due; pending = pending; faults = faults })
is_board_with f due pending faults fits board = record {
  sized = board.sized;
  words_fit = board.words_fit;
  counted = board.counted;
  counts_fit = record {
    faults = fits;
    cuts = board.counts_fit.cuts;
    writes = board.counts_fit.writes;
    compares = board.counts_fit.compares;
    matches = board.counts_fit.matches;
  };
  may_go = board.may_go;
}

-- so one is that can be cut
pub cut_is_board : (b : CutBoard) → IsBoard (cut_facts b)
cut_is_board b = is_board_with (ram_facts b.ram) (cut_facts b).due b.arm 0 (omega arith) (ram_is_board b.ram)

-- and one that can fail
pub fault_is_board : (b : FaultBoard) → IsBoard (fault_facts b)
fault_is_board b = is_board_with (ram_facts b.ram) 0 b.arm b.faults b.faults_fit (ram_is_board b.ram)
