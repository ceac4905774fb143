-- Where the condition of a bit stands in a rule.
use Rattle.std.proofs.Common.{ℕ, zero, suc, ◌≡◌, ◌+◌, ◌-◌, ◌*◌, ◌/◌, ◌%◌, ◌^◌, ◌≤◌, ◌==◌, ◌&&◌, true, nat_lt, List, ◌∷◌}
use Rattle.std.proofs.Common.{length, get_or, count_ones, Some, is_some, refl, sym, ap, ◌∙◌, arith, inl, inr}
use Rattle.std.specs.Prelude.{IsTrue, IsSome, slice_get, option_and_then}
use Rattle.std.specs.List.{list_all}
use Rattle.std.specs.Int.{bit_at}
use Rattle.std.proofs.lemmas.Bool.{and_parts, eqb-true, false≢true, cases_Bool, cases_lt}
use Rattle.std.proofs.lemmas.Nat.{ones_cat, zero_from_ones, pow_pos, mod_below}
use Rattle.std.proofs.lemmas.Option.{slice_get-get_or}
use Rattle.std.proofs.lemmas.List.Folds.{list_all_at}
use Rattle.std.proofs.Math.Nat.{div-add-mod}
use Rattle.card_model.specs.declared.access_mode.AccessBit.{AccessBit}
use Rattle.card_model.specs.Access.{bit_number, is_set, set_down_to}
use Rattle.card_model.specs.Rule.{condition_of, is_rule, condition_at}

-- of the set bits of a number, those from a place up are some
set_above : (n k : ℕ) → count_ones (n / 2 ^ k) ≤ count_ones n
set_above n k =
    let high = n / 2 ^ k in
    let low = n % 2 ^ k in
    let whole : high * 2 ^ k + low ≡ n = omega (arith, div-add-mod n (2 ^ k)) in
    let parts : count_ones (high * 2 ^ k + low) ≡ count_ones high + count_ones low =
    ones_cat k high low (mod_below n (2 ^ k) (pow_pos k)) in
    let same : count_ones (high * 2 ^ k + low) ≡ count_ones n = ap (λ (m : ℕ). count_ones m) whole in
    omega arith

-- a bit that is set is one of them
set_some : (n k : ℕ) → bit_at n k ≡ 1 → 1 ≤ count_ones (n / 2 ^ k)
set_some n k set =
    elim (cases_lt 0 (count_ones (n / 2 ^ k))) [
      | inl some ↦ some
      | inr few ↦
          let none : n / 2 ^ k ≡ 0 = zero_from_ones (n / 2 ^ k) (omega arith) in
          let even : n / 2 ^ k % 2 ≡ 0 = rw none refl in
          absurd (omega arith)
    ]

-- an allowed condition stands at each place behind the access mode byte
condition_there : (mode : ℕ) (conditions : List ℕ) (place : ℕ)
    → list_all (λ b. is_some (condition_of b)) conditions ≡ true → 1 ≤ place → place ≤ length conditions
    → is_some (option_and_then condition_of (slice_get (mode ∷ conditions) place)) ≡ true
condition_there mode conditions zero all some few = absurd (omega arith)
condition_there mode conditions (suc place) all some few =
    let there : slice_get conditions place ≡ Some (get_or conditions place 0) =
    slice_get-get_or conditions place 0 (omega arith) in
    rw there (elim (cases_Bool (is_some (condition_of (get_or conditions place 0)))) [
      | inl allowed ↦ allowed
      | inr other ↦ absurd (false≢true
          (sym (list_all_at (λ b. is_some (condition_of b)) conditions place 0 (omega arith) other) ∙ all))
    ])

pub condition-set : (mode : ℕ) (conditions : List ℕ) (bit : AccessBit) → IsTrue (is_rule (mode ∷ conditions))
    → IsTrue (is_set mode bit) → IsSome (condition_at (mode ∷ conditions) bit)
condition-set mode conditions bit rule set =
    let parts = and_parts (nat_lt mode 0x80 && (length conditions == count_ones mode))
    (list_all (λ b. is_some (condition_of b)) conditions) rule in
    let size : length conditions ≡ count_ones mode =
    eqb-true (length conditions) (count_ones mode)
    (and_parts (nat_lt mode 0x80) (length conditions == count_ones mode) parts.0).1 in
    let one = set_some mode (bit_number bit - 1) (eqb-true _ _ set) in
    let few = set_above mode (bit_number bit - 1) in
    rw set (condition_there mode conditions (set_down_to mode bit) parts.1 one (omega arith))
