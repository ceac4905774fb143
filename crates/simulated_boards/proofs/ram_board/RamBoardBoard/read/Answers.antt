use Rattle.std.proofs.Common.{refl, rules, arith}
use Rattle.std.proofs.lemmas.Grind.{common_steps}
use Rattle.simulated_boards.proofs.Telling.{off_tells, off_rightly, lit_rightly}
use Rattle.nvm_board.specs.laws.SteadyCalls.{answered_ok}
use Rattle.simulated_boards.proofs.ram_board.RamBoardBoard.read.Goals as goal

pub returns-then-self : goal.returns-then-self
returns-then-self c = record {
  word = search rules;
  light = off_tells _ c.if-self.true;
  worn = off_rightly _ _ c.if-self.true;
  cut = search rules;
  words = search rules;
  writes = search rules;
  compares = search rules;
  matches = search rules;
}

pub returns : goal.returns
returns c = record {
  word = grind (arith, common_steps);
  light = let lit = c.if-self.false in
      answered_ok _ _ _ (record { was_lit = lit; lit = lit; faults = refl; cuts = refl; due = refl });
  worn = lit_rightly _ _ _;
  cut = search rules;
  words = search rules;
  writes = search rules;
  compares = search rules;
  matches = search rules;
}
