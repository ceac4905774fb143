use Rattle.std.proofs.Common.{◌++◌, ℕ, List, length, take, drop, refl, ap, ap₂, sym, ◌∙◌, subst, inl, inr, rules}
use Rattle.std.proofs.Math.Seq.{take-append_seam}
use Rattle.nvm_board.specs.Facts.{Facts, address}
use Rattle.nvm_board.specs.History.{written}
use Rattle.nvm_board.specs.Torn.{Torn}
use Rattle.nvm_board.specs.laws.Torn.{Torn-none, Torn-all}
use Rattle.nvm_board.specs.laws.SteadyCalls.{answered_ok}
use Rattle.simulated_boards.proofs.Telling.{off_tells, off_rightly, worn_tells, worn_rightly, lit_rightly}
use Rattle.simulated_boards.proofs.ram_board.RamBoardBoard.write.Goals as goal

pub returns-then-self-clause-writes : goal.returns-then-self-clause-writes
returns-then-self-clause-writes c = record {
  done = search rules;
  torn = Torn-none _ _ _;
  light = off_tells _ c.if-self.true;
  worn = off_rightly _ _ c.if-self.true;
  cut = search rules;
  counted = search rules;
  counted_err = search rules;
  log = λ lit. refl;
  compares = search rules;
  matches = search rules;
}

pub returns-then-self-2-clause-writes : goal.returns-then-self-2-clause-writes
returns-then-self-2-clause-writes c = record {
  done = search rules;
  torn =
      let at = address c.args.page c.args.first in
      let torn : List ℕ → Type 0 = Torn c.args.self.now.words.items at c.args.words.now in
      subst torn (sym (ap (λ (f : Facts). f.words) c.go_dark.ensures)) (Torn-none _ _ _);
  light = worn_tells _ _ c.if-self.false (inr (inl c.if-self-2.true)) c.go_dark.ensures;
  worn = worn_rightly _ _ _ (inr (inl c.if-self-2.true));
  cut = search rules;
  counted = search rules;
  counted_err = search rules;
  log = λ lit. refl;
  compares = search rules;
  matches = search rules;
}

pub returns-clause-writes : goal.returns-clause-writes
returns-clause-writes c =
    let at = address c.args.page c.args.first in
    let old = c.args.self.now.words.items in
    let torn : List ℕ → Type 0 = Torn old at c.args.words.now in
    let run = λ (l : List ℕ) (a : ℕ). written l a c.args.words.now in
    let put = c.put_run.ensures.put ∙ ap₂ run c.as_mut_slice.ensures.value c.place.ensures in
    let all = c.put_run.new.words in
    let size = sym (c.put_run.ensures.size ∙ c.as_mut_slice.ensures.len) in
    let rest = drop (length all) old in
    let back = ap (λ (n : ℕ). take n (all ++ rest)) size ∙ take-append_seam all rest in
    let lit = c.if-self.false in
    record {
      done = back ∙ put;
      torn = subst torn (sym (back ∙ put)) (Torn-all _ _ _);
      light = answered_ok _ _ _ (record { was_lit = lit; lit = lit; faults = refl; cuts = refl; due = refl });
      worn = lit_rightly _ _ _;
      cut = search rules;
      counted = refl;
      counted_err = search rules;
      log = λ lit. refl;
      compares = refl;
      matches = refl;
    }
