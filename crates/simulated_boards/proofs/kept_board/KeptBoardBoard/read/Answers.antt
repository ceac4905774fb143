use Rattle.simulated_boards.specs.Cut.{cut_facts}
use Rattle.simulated_boards.specs.Kept.{kept_log}
use Rattle.simulated_boards.specs.laws.Logging.{tells_logged}
use Rattle.simulated_boards.proofs.kept_board.KeptBoardBoard.read.Goals as goal

pub returns-clause-tells : goal.returns-clause-tells
returns-clause-tells g c =
    tells_logged (kept_log g.F.Follower.log c.args.self.now) (cut_facts c.args.self.now.cut) (cut_facts c.read.new.self)
    c.args.at c.read.result c.read.ensures.tells
