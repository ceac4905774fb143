use Rattle.std.proofs.Common.{ap}
use Rattle.std.proofs.lemmas.Result.{on_ok_weaker}
use Rattle.simulated_boards.proofs.WithArm.{with_arm}
use Rattle.simulated_boards.proofs.cut_board.CutBoardSocket.light.Goals as goal

pub returns-clause-worn : goal.returns-clause-worn
returns-clause-worn c = c.light.ensures.worn

pub returns-clause-lit : goal.returns-clause-lit
returns-clause-lit c = on_ok_weaker c.light.result (ap (with_arm c.args.self.now.arm)) c.light.ensures.lit
