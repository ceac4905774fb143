-- Laws of sectors in a row: they lie one behind the other, and are erased so.
use Rattle.std.specs.Prelude.{◌≡◌, ◌<◌, ◌≤◌, ◌+◌, ◌-◌, ℕ, zero, suc, List, slice_index}
use Rattle.std.proofs.Common.{◌∙◌, ap, inl, ⊎_elim, arith}
use Rattle.std.proofs.lemmas.Bool.{cases_lt}
use Rattle.flash_device.specs.FlashCalls.{SameElsewhere, AreFilled}
use Rattle.flash_device.specs.laws.Marks.{elsewhere_wider, elsewhere_then}

module _ (start : ℕ → ℕ) (rise : (s : ℕ) → start s ≤ start (s + 1)) where
  rises : (s n : ℕ) → start s ≤ start (s + n)
  rises s zero = let here : s + zero ≡ s = omega arith in
      let e : start (s + zero) ≡ start s = ap start here in omega (arith, e)
  rises s (suc n) = let there : s + suc n ≡ s + n + 1 = omega arith in
      let e : start (s + suc n) ≡ start (s + n + 1) = ap start there in
      let before = rises s n in let up = rise (s + n) in omega (arith, e, before, up)

  pub rises_to : (s t : ℕ) → s ≤ t → start s ≤ start t
  rises_to s t le = let there : s + (t - s) ≡ t = omega (arith, le) in
      let e : start (s + (t - s)) ≡ start t = ap start there in let up = rises s (t - s) in omega (arith, e, up)

  -- one sector more is erased
  pub sectors_filled : (m after : List ℕ) (from s word : ℕ) → from ≤ s
      → AreFilled m (start from) (start s - start from) word
      → SameElsewhere m (start s) (start (s + 1) - start s) after
      → AreFilled after (start s) (start (s + 1) - start s) word
      → AreFilled after (start from) (start (s + 1) - start from) word
  sectors_filled m after from s word le was h is =
      let low = rises_to from s le in let up = rise s in record {
        each = λ k lt. ⊎_elim
            (λ (b : k < start s - start from). let x : start from + k < start s = omega (arith, b, low) in
            h.same (start from + k) (inl x) ∙ was.each k b)
            (λ (a : start s - start from ≤ k).
            let place : start from + k ≡ start s + (k - (start s - start from)) = omega (arith, a, low) in
            ap (λ (j : ℕ). slice_index after j) place
            ∙ is.each (k - (start s - start from)) (omega (arith, lt, a, low, up)))
            (cases_lt k (start s - start from));
      }

  -- the sectors up to one, and that one, or no more
  pub sectors_elsewhere : (m mid after : List ℕ) (from s end : ℕ) → from ≤ s → s + 1 ≤ end
      → SameElsewhere m (start from) (start s - start from) mid
      → SameElsewhere mid (start s) (start (s + 1) - start s) after
      → SameElsewhere m (start from) (start end - start from) after
  sectors_elsewhere m mid after from s end le before g h =
      let low = rises_to from s le in let up = rise s in let high = rises_to (s + 1) end before in
      elsewhere_then m mid after (start from) (start end - start from)
      (elsewhere_wider m mid (start from) (start s - start from) (start from) (start end - start from) (omega arith)
      (omega (arith, low, up, high)) g)
      (elsewhere_wider mid after (start s) (start (s + 1) - start s) (start from) (start end - start from) low
      (omega (arith, low, up, high)) h)
