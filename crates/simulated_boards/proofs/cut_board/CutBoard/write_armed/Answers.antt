use Rattle.std.proofs.Common.{◌≡◌, ◌+◌, ◌≤◌, ℕ, refl, sym, ◌∙◌, ap, length, arith, rules}
use Rattle.std.specs.Prelude.{false}
use Rattle.simulated_boards.specs.Cut.{ArmAfter}
use Rattle.nvm_board.specs.Facts.{Facts, address, Answered, IsLostRightly}
use Rattle.nvm_board.specs.laws.Torn.{Torn-IsTornBy}
use Rattle.simulated_boards.specs.Ram.{ram_facts}
use Rattle.simulated_boards.proofs.WithArm.{with_arm, answered_armed, lost_armed, error_armed, spared_err}
use Rattle.simulated_boards.proofs.WithArm.{answered_spared}
use Rattle.simulated_boards.proofs.WithArm.{spared_ok, answered_torn, arm_spent, aims_armed, aims_fallen, aims_nearer}
use Rattle.simulated_boards.proofs.cut_board.CutBoard.write_armed.Goals as goal

pub returns-in-Some : goal.returns-in-Some
unfolding IsLostRightly
returns-in-Some c =
    let old = ram_facts c.args.self.now.ram in
    let new = ram_facts c.tear.new.self in
    let a = c.args.self.now.arm in
    let mask = c.in-Some.mask in
    let fires = c.in-Some.ensures.fires.1 in
    let lit = sym c.is_dark.ensures ∙ c.in-Some.ensures.fires.0 in
    let same = c.tear.ensures.same in
    let fits : address c.args.page c.args.first + length c.args.words.now ≤ length old.words =
    omega (arith, c.args.self.now.ram.sized) in
    record {
      writes = record {
        done = search rules;
        torn = Torn-IsTornBy _ _ _ _ _ fits c.tear.ensures.torn;
        light = answered_torn a old new mask fires lit (ap (λ (f : Facts). f.dark) same)
            (ap (λ (f : Facts). f.faults) same) (ap (λ (f : Facts). f.cuts) same);
        worn = search rules;
        cut = aims_fallen _ _ a mask old new fires lit (ap (λ (f : Facts). f.dark) same)
            (ap (λ (f : Facts). f.masks) same) (λ masks. c.tear.ensures.torn);
        counted = search rules;
        counted_err = search rules;
        log = λ lit. refl;
        compares = search rules;
        matches = search rules;
      };
      arm = arm_spent _ _ a old new mask fires lit c.tear.ensures.torn;
      torn_words = search rules;
    }

pub returns-in_err-write : goal.returns-in_err-write
returns-in_err-write c =
    let old = ram_facts c.args.self.now.ram in
    let new = ram_facts c.write.new.self in
    let a = c.args.self.now.arm in
    let at = address c.args.page c.args.first in
    let run = c.args.words.now in
    let told = c.in_err-write.ensures in
    let handed = c.from_residual.ensures.1 in
    record {
      writes = record {
        done = search rules;
        torn = told.writes.torn;
        light = error_armed (λ r. Answered (with_arm a old) (with_arm a new) r) _ _ handed
            (answered_armed a old new _ refl told.writes.light);
        worn = error_armed (λ r. IsLostRightly (with_arm a old) (with_arm a new) r) _ _ handed
            (lost_armed a a old new _ refl told.writes.worn);
        cut = aims_armed at run a old new told.uncounted told.writes.cut;
        counted = search rules;
        counted_err = search rules;
        log = λ lit. refl;
        compares = told.writes.compares;
        matches = told.writes.matches;
      };
      arm = error_armed (λ r. ArmAfter at run (with_arm a old) (with_arm a new) r) _ _ handed
          (spared_err at run a old new _ refl refl told.writes.light told.writes.worn
          (λ mask lit. c.firing.ensures.spared c.in_default.is (c.is_dark.ensures ∙ lit) mask));
      torn_words = search rules;
    }

pub returns : goal.returns
unfolding IsLostRightly
returns c =
    let old = ram_facts c.args.self.now.ram in
    let new = ram_facts c.write.new.self in
    let a = c.args.self.now.arm in
    let b = c.nearer-self.result in
    let nearer = c.nearer-self.ensures in
    let told = c.in_ok-write.ensures.writes in
    let was_lit = (told.light.ok refl).was_lit in
    let never = λ (mask : ℕ) (lit : old.dark ≡ false). c.firing.ensures.spared c.in_default.is
    (c.is_dark.ensures ∙ lit) mask in
    record {
      writes = record {
        done = told.done;
        torn = told.torn;
        light = answered_spared a b old new _ nearer.due (told.light.ok refl);
        worn = search rules;
        cut = aims_nearer _ _ a b old new was_lit told.cut.masks told.counted nearer.none nearer.before never;
        counted = told.counted;
        counted_err = search rules;
        log = λ lit. refl;
        compares = told.compares;
        matches = told.matches;
      };
      arm = spared_ok _ _ a b old new _ was_lit nearer.none nearer.before never;
      torn_words = search rules;
    }
