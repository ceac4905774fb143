use Rattle.std.proofs.Common.{refl, rules}
use Rattle.simulated_boards.specs.Ram.{ram_facts}
use Rattle.simulated_boards.proofs.WithArm.{answered_armed, lost_armed, aim_stays_armed}
use Rattle.simulated_boards.proofs.cut_board.CutBoardBoard.read.Goals as goal

pub returns-clause-tells : goal.returns-clause-tells
returns-clause-tells c = record {
  word = search rules;
  light = answered_armed c.args.self.now.arm (ram_facts c.args.self.now.ram) (ram_facts c.read.new.self) _ refl
      c.read.ensures.light;
  worn = lost_armed c.args.self.now.arm c.args.self.now.arm (ram_facts c.args.self.now.ram)
      (ram_facts c.read.new.self) _ refl c.read.ensures.worn;
  cut = aim_stays_armed c.args.self.now.arm (ram_facts c.args.self.now.ram) (ram_facts c.read.new.self)
      c.read.ensures.writes c.read.ensures.cut;
  words = search rules;
  writes = search rules;
  compares = search rules;
  matches = search rules;
}
