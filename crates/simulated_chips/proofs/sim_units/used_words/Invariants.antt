use Rattle.std.proofs.Common.{◌≡◌, ◌≤◌, take}
use Rattle.std.specs.List.{count_by, range_with_len}
use Rattle.simulated_chips.specs.UsedWordParts.{used_at}
use Rattle.simulated_chips.proofs.sim_units.used_words.Given as goal

abbrev pub invariant-loop-k : goal.invariant-loop-k
invariant-loop-k l = record {
  count : l.used ≡ count_by (used_at l.words l.programs) (take l.k (range_with_len l.at l.size));
  most : l.used ≤ l.k;
}
