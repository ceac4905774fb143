use Rattle.simulated_boards.specs.Cut.{cut_facts}
use Rattle.simulated_boards.specs.Kept.{kept_log}
use Rattle.simulated_boards.specs.laws.Logging.{compares_logged}
use Rattle.simulated_boards.proofs.kept_board.KeptBoardBoard.compare.Goals as goal

pub returns-clause-compares : goal.returns-clause-compares
returns-clause-compares g c =
    compares_logged (kept_log g.F.Follower.log c.args.self.now) (cut_facts c.args.self.now.cut)
    (cut_facts c.compare.new.self) c.args.secret c.args.kept.now c.args.shown.now c.compare.result
    c.compare.ensures.compares
