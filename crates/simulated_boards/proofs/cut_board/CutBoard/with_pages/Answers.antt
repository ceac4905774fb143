use Rattle.std.specs.Prelude.{None}
use Rattle.std.proofs.Common.{ap, refl}
use Rattle.simulated_boards.proofs.WithArm.{with_arm}
use Rattle.simulated_boards.proofs.cut_board.CutBoard.with_pages.Goals as goal

pub returns : goal.returns
returns c = record { facts = ap (with_arm None) c.in_ok-with_pages.ensures; torn = refl }
