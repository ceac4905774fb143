use Rattle.std.specs.Prelude.{if◌then◌else◌}
use Rattle.std.proofs.Common.{ℕ, refl, ap, ◌∙◌, inl, rules}
use Rattle.nvm_board.specs.Facts.{Facts, raised}
use Rattle.nvm_board.specs.laws.SteadyCalls.{answered_ok}
use Rattle.simulated_boards.proofs.Telling.{off_tells, off_rightly, worn_tells, worn_rightly, lit_rightly}
use Rattle.simulated_boards.proofs.ram_board.RamBoardBoard.compare.Goals as goal

pub returns-then-self : goal.returns-then-self
returns-then-self c = record {
  equal = search rules;
  light = off_tells _ c.if-self.true;
  worn = off_rightly _ _ c.if-self.true;
  cut = search rules;
  words = search rules;
  writes = search rules;
  compared = search rules;
  compared_err = inl refl;
  matched = search rules;
  matched_err = inl refl;
}

pub returns-then-counts_end : goal.returns-then-counts_end
returns-then-counts_end c = record {
  equal = search rules;
  light = worn_tells _ _ c.if-self.false (c.if-counts_end.ensures.worn refl) c.go_dark.ensures;
  worn = worn_rightly _ _ _ (c.if-counts_end.ensures.worn refl);
  cut = search rules;
  words = ap (λ (f : Facts). f.words) c.go_dark.ensures;
  writes = ap (λ (f : Facts). f.writes) c.go_dark.ensures;
  compared = search rules;
  compared_err = inl (ap (λ (f : Facts). f.compares) c.go_dark.ensures);
  matched = search rules;
  matched_err = inl (ap (λ (f : Facts). f.matches) c.go_dark.ensures);
}

pub returns : goal.returns
returns c = record {
  equal = search rules;
  light =
      let same = c.count.ensures in
      answered_ok _ _ _ (record {
        was_lit = c.if-self.false;
        lit = ap (λ (f : Facts). f.dark) same ∙ c.if-self.false;
        faults = ap (λ (f : Facts). f.faults) same;
        cuts = ap (λ (f : Facts). f.cuts) same;
        due = ap (λ (f : Facts). f.due) same;
      });
  worn = lit_rightly _ _ _;
  cut = search rules;
  words = ap (λ (f : Facts). f.words) c.count.ensures;
  writes = ap (λ (f : Facts). f.writes) c.count.ensures;
  compared = ap (λ (f : Facts). f.compares) c.count.ensures
      ∙ ap (λ (secret : ℕ). raised c.args.self.now.compares secret) c.from-place.ensures;
  compared_err = search rules;
  matched =
      let old = c.args.self.now.matches in
      ap (λ (f : Facts). f.matches) c.count.ensures
      ∙ ap (λ (secret : ℕ). if c.eq-equal.result then raised old secret else old) c.from-place.ensures;
  matched_err = search rules;
}
