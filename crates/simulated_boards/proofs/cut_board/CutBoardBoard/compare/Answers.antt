use Rattle.std.proofs.Common.{refl, rules}
use Rattle.simulated_boards.specs.Ram.{ram_facts}
use Rattle.simulated_boards.proofs.WithArm.{answered_armed, lost_armed, aim_stays_armed}
use Rattle.simulated_boards.proofs.cut_board.CutBoardBoard.compare.Goals as goal

pub returns-clause-compares : goal.returns-clause-compares
returns-clause-compares c = record {
  equal = search rules;
  light = answered_armed c.args.self.now.arm (ram_facts c.args.self.now.ram) (ram_facts c.compare.new.self) _ refl
      c.compare.ensures.light;
  worn = lost_armed c.args.self.now.arm c.args.self.now.arm (ram_facts c.args.self.now.ram)
      (ram_facts c.compare.new.self) _ refl c.compare.ensures.worn;
  cut = aim_stays_armed c.args.self.now.arm (ram_facts c.args.self.now.ram) (ram_facts c.compare.new.self)
      c.compare.ensures.writes c.compare.ensures.cut;
  words = search rules;
  writes = search rules;
  compared = search rules;
  compared_err = search rules;
  matched = search rules;
  matched_err = search rules;
}
