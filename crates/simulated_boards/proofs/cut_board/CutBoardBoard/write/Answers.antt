use Rattle.std.proofs.Common.{refl, rules}
use Rattle.nvm_board.specs.Facts.{address}
use Rattle.simulated_boards.specs.Ram.{ram_facts}
use Rattle.simulated_boards.proofs.WithArm.{answered_armed, lost_armed, unarmed_after, aims_unarmed}
use Rattle.simulated_boards.proofs.cut_board.CutBoardBoard.write.Goals as goal

pub returns-in-None : goal.returns-in-None
returns-in-None c =
    let old = ram_facts c.args.self.now.ram in
    let new = ram_facts c.write.new.self in
    let a = c.args.self.now.arm in
    let told = c.write.ensures.writes in
    record {
      writes = record {
        done = told.done;
        torn = told.torn;
        light = answered_armed a old new _ refl told.light;
        worn = lost_armed a a old new _ refl told.worn;
        cut = aims_unarmed _ _ a old new c.in-None.is told.cut;
        counted = told.counted;
        counted_err = told.counted_err;
        log = λ lit. refl;
        compares = told.compares;
        matches = told.matches;
      };
      arm = unarmed_after (address c.args.page c.args.first) c.args.words.now a old new _ c.in-None.is refl refl
          told.light told.worn;
      torn_words = search rules;
    }
