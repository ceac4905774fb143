use Rattle.std.proofs.Common.{refl, rules}
use Rattle.nvm_board.specs.Facts.{IsLostRightly}
use Rattle.simulated_boards.proofs.WithFault.{tells_handed_on}
use Rattle.simulated_boards.proofs.fault_board.FaultBoardBoard.compare.Goals as goal

pub returns-in_err-equal-clause-compares : goal.returns-in_err-equal-clause-compares
unfolding IsLostRightly
returns-in_err-equal-clause-compares c = record {
  equal = search rules;
  light =
      let old = c.args.self.now in
      tells_handed_on old.arm old.faults _ _ _ _ c.from_residual.ensures.1 c.in_err-equal.ensures.light refl refl;
  worn = search rules;
  cut = search rules;
  words = search rules;
  writes = search rules;
  compared = search rules;
  compared_err = search rules;
  matched = search rules;
  matched_err = search rules;
}
