use Rattle.simulated_boards.proofs.ArmedFlash.{none_due}
use Rattle.simulated_boards.proofs.cut_flash_board.CutFlashBoardBoard.compare.Goals as goal

pub invariant_of-self : goal.invariant_of-self
invariant_of-self g c =
    let old = g.B.Board.facts c.args.self.now.board in
    let new = g.B.Board.facts c.compare-ended.new.self in
    record {
      uncut = none_due old new _ c.args.self.now.uncut c.compare-ended.ensures.light;
      unfailed = c.has_no_fault.ensures;
    }
