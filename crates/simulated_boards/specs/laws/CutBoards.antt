-- A board on a flash that loses power at a chosen write is a board.
use Rattle.nvm_board.specs.Facts.{Facts, IsBoard}
use Rattle.simulated_boards.specs.declared.cut_flash_board.CutFlashBoard.{CutFlashBoard}
use Rattle.simulated_boards.specs.CutFlashFacts.{cut_flash_facts}

pub cut_flash_is_board : {B : Type 0} {g : _} (facts : B → Facts) → ((b : B) → IsBoard (facts b))
    → (b : CutFlashBoard B g) → IsBoard (cut_flash_facts facts b)
cut_flash_is_board facts boards b =
    let is = boards b.board in
    record {
      sized = is.sized;
      words_fit = is.words_fit;
      counted = is.counted;
      counts_fit = record {
        faults = is.counts_fit.faults;
        cuts = is.counts_fit.cuts;
        writes = is.counts_fit.writes;
        compares = is.counts_fit.compares;
        matches = is.counts_fit.matches;
      };
      may_go = is.may_go;
    }
