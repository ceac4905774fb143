use Rattle.std.proofs.Common.{◌+◌, ◌≤◌, refl, sym, ◌∙◌, subst, length, List, ℕ, arith, rules}
use Rattle.nvm_board.specs.Facts.{address, IsLostRightly}
use Rattle.simulated_boards.specs.Faulty.{AfterWrite}
use Rattle.simulated_boards.specs.Ram.{ram_facts}
use Rattle.nvm_board.specs.Torn.{Torn}
use Rattle.simulated_boards.proofs.WithArm.{error_armed}
use Rattle.simulated_boards.proofs.WithFault.{with_fault, tells_handed_on, counted_err, left_torn}
use Rattle.simulated_boards.proofs.fault_board.FaultBoardBoard.write.Goals as goal

pub returns-in-Some-clause-writes : goal.returns-in-Some-clause-writes
unfolding IsLostRightly
returns-in-Some-clause-writes c = record {
  done = search rules;
  torn =
      let old = c.args.self.now.ram in
      let at = address c.args.page c.args.first in
      let fits : at + length c.args.words.now ≤ length old.words.items = omega (arith, old.sized) in
      let P : List ℕ → Type 0 = Torn old.words.items at c.args.words.now in
      subst P (sym c.fail.ensures.words) (left_torn _ _ _ _ _ _ fits c.leave.ensures.left);
  light = search rules;
  worn = search rules;
  cut = search rules;
  counted = search rules;
  counted_err = search rules;
  log = λ lit. refl;
  compares = search rules;
  matches = search rules;
}

pub returns-in_err-write-clause-writes : goal.returns-in_err-write-clause-writes
unfolding IsLostRightly
returns-in_err-write-clause-writes c =
    let old = c.args.self.now in
    let told = c.in_err-write.ensures.writes in
    record {
      done = search rules;
      torn = told.torn;
      light = tells_handed_on old.arm old.faults _ _ _ _ c.from_residual.ensures.1 told.light refl refl;
      worn = search rules;
      cut = search rules;
      counted = search rules;
      counted_err = search rules;
      log = λ lit. refl;
      compares = told.compares;
      matches = told.matches;
    }

pub returns-in_err-write-clause-fault : goal.returns-in_err-write-clause-fault
returns-in_err-write-clause-fault c =
    let old = ram_facts c.args.self.now.ram in
    let new = ram_facts c.write.new.self in
    let a = c.args.self.now.arm in
    let n = c.args.self.now.faults in
    let at = address c.args.page c.args.first in
    let told = c.in_err-write.ensures.writes in
    error_armed
    (λ r. AfterWrite c.args.self.now.counted at c.args.words.now (with_fault a n old) (with_fault a n new) r) _ _
    c.from_residual.ensures.1
    (record {
      pending = counted_err a n old new _ refl refl refl told.light told.worn
          (λ mask lit. c.firing.ensures.spared c.in_default.is (c.is_dark.ensures ∙ lit) mask);
      words = λ mask lit fires. absurd (c.firing.ensures.spared c.in_default.is (c.is_dark.ensures ∙ lit) mask fires);
    })
