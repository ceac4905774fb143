use Rattle.std.proofs.Common.{◌≡◌, ◌<◌, ◌-◌, ℕ}
use Rattle.file_tree.specs.Subtrees.{leads, TellsParents}
use Rattle.file_tree.proofs.parents.is_within.Given as goal

abbrev pub invariant-loop-step : goal.invariant-loop-step
invariant-loop-step g l = record {
  small : l.at < 256;
  same : (parent : ℕ → ℕ) → TellsParents (goal.F-post g l.parent_of) parent
      → leads parent 7 l.top l.fn.e ≡ leads parent (7 - l._step) l.top l.at;
}
