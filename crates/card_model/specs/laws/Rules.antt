-- How long a rule is.
use Rattle.std.proofs.Common.{ℕ, ◌≡◌, ◌<◌, ◌≤◌, true, List, [], ◌∷◌, length, count_ones, arith}
use Rattle.std.proofs.lemmas.Nat.{ones-le}
use Rattle.std.proofs.lemmas.Grind.{common_steps}
use Rattle.std.proofs.lemmas.Bool.Decides.{nat_tests}
use Rattle.card_model.specs.Rule.{is_rule}

-- an access mode byte with bit 8 clear has at most seven bits set, and a rule one condition for each
pub length-rule : (bytes : List ℕ) → is_rule bytes ≡ true → length bytes ≤ 8
length-rule [] e = absurd cc
length-rule (mode ∷ conditions) e = let h : mode < 128 → count_ones mode ≤ 7 = ones-le 7 mode in
    grind (arith, common_steps, nat_tests, h)
