use Rattle.std.proofs.Common.{◌≡◌, length, take}
use Rattle.nvm_board.specs.Facts.{AreWords}
use Rattle.nvm_board.specs.History.{written}
use Rattle.simulated_boards.proofs.runs.put_run.Given as goal

abbrev pub invariant-loop-i : goal.invariant-loop-i
invariant-loop-i l = record {
  all : length l.words ≡ length l.initial.words;
  so_far : l.words ≡ written l.initial.words l.start (take l.i l.run);
  fits : AreWords l.initial.words → AreWords l.words;
}
