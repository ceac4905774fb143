use Rattle.std.proofs.Common.{◌-◌, ◌≤◌, length}
use Rattle.file_tree.specs.Indexes.{AreSorted}
use Rattle.file_tree.specs.IndexParts.{AreBefore, AreBehind, halved}
use Rattle.file_tree.proofs.steps.search.Given as goal

abbrev pub invariant-loop-low : goal.invariant-loop-low
invariant-loop-low l = record {
  ordered : l.low ≤ l.high;
  within : l.high ≤ length l.places;
  few : l.steps ≤ 6;
  left : l.high - l.low ≤ halved l.steps;
  before : AreSorted l.places → AreBefore l.places l.key l.low;
  behind : AreSorted l.places → AreBehind l.places l.key l.high;
}

abbrev pub decreases-loop-low : goal.decreases-loop-low
decreases-loop-low l = l.high - l.low
