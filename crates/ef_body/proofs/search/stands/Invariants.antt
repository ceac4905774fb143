use Rattle.std.proofs.Common.{◌≡◌, ◌≤◌, ◌<◌, ◌-◌, ℕ, length, drop}
use Rattle.std.specs.Prelude.{false, nat_eq}
use Rattle.std.specs.List.{starts_with}
use Rattle.ef_body.proofs.search.stands.Given as goal

abbrev pub invariant-loop-at : goal.invariant-loop-at
invariant-loop-at l = record {
  within : l.at ≤ length l.bytes;
  passed : (k : ℕ) → k < l.at → starts_with nat_eq (drop k l.bytes) l.text ≡ false;
}

abbrev pub decreases-loop-at : goal.decreases-loop-at
decreases-loop-at l = length l.bytes - l.at
