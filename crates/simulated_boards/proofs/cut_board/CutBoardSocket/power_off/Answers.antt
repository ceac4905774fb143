use Rattle.std.proofs.Common.{ap}
use Rattle.simulated_boards.proofs.WithArm.{with_arm}
use Rattle.simulated_boards.proofs.cut_board.CutBoardSocket.power_off.Goals as goal

pub returns-clause-facts : goal.returns-clause-facts
returns-clause-facts c = ap (with_arm c.args.self.now.arm) c.power_off.ensures
