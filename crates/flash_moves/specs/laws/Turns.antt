-- Laws of the marks that close blocks, and of the turn.
use Rattle.std.specs.Prelude.{◌≡◌, ◌⊎◌, ◌<◌, ◌≤◌, ◌+◌, ◌*◌, ℕ, Bool, true, false, List}
use Rattle.std.specs.Prelude.{nat_eq, if◌then◌else◌}
use Rattle.std.proofs.Common.{refl, sym, ◌∙◌, inl, inr, ⊎_elim, arith, true≢false}
use Rattle.flash_device.specs.FlashBlocks.{area_size, witness_start}
use Rattle.flash_device.specs.FlashCalls.{SameElsewhere}
use Rattle.flash_device.specs.FlashLogs.{close_b, is_closed, slot_of, base_in, turn_of, turn_by}
use Rattle.flash_moves.specs.Rings.{IsRing, SameMarks}
use Rattle.flash_device.specs.laws.Marks.{closed_same}

-- the marks by the turn
pub record AreMarks (slots : ℕ) (m : List ℕ) (a b c : Bool) : Type 0 where
  pub first : is_closed m (20 * slots) ≡ a
  pub second : is_closed m (close_b slots) ≡ b
  pub third : is_closed m (witness_start slots) ≡ c

module _ (slots : ℕ) where
  -- the same marks, the same turn
  pub turn_same : (m after : List ℕ) → SameMarks slots m after → turn_of slots after ≡ turn_of slots m
  unfolding turn_of
  turn_same m after same = λ i. turn_by (same.a i) (same.b i) (same.c i)

  pub ring_same : (m after : List ℕ) → SameMarks slots m after → IsRing slots m → IsRing slots after
  ring_same m after same ring = λ ab bc. ring (sym same.a ∙ ab ∙ same.b) (sym same.b ∙ bc ∙ same.c)

  pub base_cases : (a : ℕ) → (base_in slots a ≡ 0) ⊎ (base_in slots a ≡ area_size slots)
  base_cases a = by_test (nat_eq a 0)
    where
      by_test : (b : Bool) → (◌≡◌ {A = ℕ} (if b then 0 else area_size slots) 0)
          ⊎ (◌≡◌ {A = ℕ} (if b then 0 else area_size slots) (area_size slots))
      by_test true = inl refl
      by_test false = inr refl

  -- a slot has no mark that closes a block
  pub slot_marks : (m after : List ℕ) (area s : ℕ) → s < slots
      → SameElsewhere m (slot_of (base_in slots area) s) 20 after
      → SameMarks slots m after
  slot_marks m after area s below h =
      let at : ℕ = slot_of (base_in slots area) s in ⊎_elim
      (λ (e : base_in slots area ≡ 0).
      let a : at + 20 ≤ 20 * slots = omega (arith, e, below) in
      let b : at + 20 ≤ close_b slots = omega (arith, a) in
      let c : at + 20 ≤ witness_start slots = omega (arith, a) in record {
        a = closed_same m after (20 * slots) at 20 h (inr a);
        b = closed_same m after (close_b slots) at 20 h (inr b);
        c = closed_same m after (witness_start slots) at 20 h (inr c);
      })
      (λ (e : base_in slots area ≡ area_size slots).
      let a : 20 * slots + 2 ≤ at = omega (arith, e) in
      let b : at + 20 ≤ close_b slots = omega (arith, e, below) in
      let c : at + 20 ≤ witness_start slots = omega (arith, b) in record {
        a = closed_same m after (20 * slots) at 20 h (inl a);
        b = closed_same m after (close_b slots) at 20 h (inr b);
        c = closed_same m after (witness_start slots) at 20 h (inr c);
      })
      (base_cases area)

  -- the turn by the marks
  pub turn_marks : (m : List ℕ) (a b c : Bool) → is_closed m (20 * slots) ≡ a → is_closed m (close_b slots) ≡ b
      → is_closed m (witness_start slots) ≡ c
      → turn_of slots m ≡ turn_by a b c
  unfolding turn_of
  turn_marks m a b c x y z = λ i. turn_by (x i) (y i) (z i)

  zero_flags : (a b c : Bool) → (a ≡ b → b ≡ c → ⊥) → turn_by a b c ≡ 0 → (a ≡ false) × (c ≡ true)
  zero_flags false false false ring t = absurd (ring refl refl)
  zero_flags false false true ring t = (refl, refl)
  zero_flags false true false ring t = absurd (omega (arith, t))
  zero_flags false true true ring t = (refl, refl)
  zero_flags true false c ring t = absurd (omega (arith, t))
  zero_flags true true false ring t = absurd (omega (arith, t))
  zero_flags true true true ring t = absurd (ring refl refl)

  one_flags : (a b c : Bool) → turn_by a b c ≡ 1 → (a ≡ true) × (b ≡ false)
  one_flags false false c t = absurd (omega (arith, t))
  one_flags false true false t = absurd (omega (arith, t))
  one_flags false true true t = absurd (omega (arith, t))
  one_flags true false c t = (refl, refl)
  one_flags true true false t = absurd (omega (arith, t))
  one_flags true true true t = absurd (omega (arith, t))

  two_flags : (a b c : Bool) → turn_by a b c ≡ 2 → (b ≡ true) × (c ≡ false)
  two_flags false false c t = absurd (omega (arith, t))
  two_flags false true false t = (refl, refl)
  two_flags false true true t = absurd (omega (arith, t))
  two_flags true false c t = absurd (omega (arith, t))
  two_flags true true false t = (refl, refl)
  two_flags true true true t = absurd (omega (arith, t))

  pub zero_marks : (m : List ℕ) → IsRing slots m → turn_of slots m ≡ 0 → (is_closed m (20 * slots) ≡ false)
      × (is_closed m (witness_start slots) ≡ true)
  unfolding turn_of
  zero_marks m ring t = zero_flags (is_closed m (20 * slots)) (is_closed m (close_b slots))
      (is_closed m (witness_start slots)) ring t

  pub one_marks : (m : List ℕ) → turn_of slots m ≡ 1 → (is_closed m (20 * slots) ≡ true)
      × (is_closed m (close_b slots) ≡ false)
  unfolding turn_of
  one_marks m t = one_flags (is_closed m (20 * slots)) (is_closed m (close_b slots))
      (is_closed m (witness_start slots)) t

  pub two_marks : (m : List ℕ) → turn_of slots m ≡ 2 → (is_closed m (close_b slots) ≡ true)
      × (is_closed m (witness_start slots) ≡ false)
  unfolding turn_of
  two_marks m t = two_flags (is_closed m (20 * slots)) (is_closed m (close_b slots))
      (is_closed m (witness_start slots)) t

  -- In turn 0, whatever stands in area B, the turn stays. When area A is closed, it is turn 1, if area B is open.
  pub zero_turn : (m after : List ℕ) → IsRing slots m → turn_of slots m ≡ 0
      → is_closed after (20 * slots) ≡ is_closed m (20 * slots)
      → is_closed after (witness_start slots) ≡ is_closed m (witness_start slots) → (turn_of slots after ≡ 0)
      × IsRing slots after
  zero_turn m after ring t a c = let z = zero_marks m ring t in
      by_b (is_closed after (close_b slots)) refl (a ∙ z.0) (c ∙ z.1)
    where
      by_b : (b : Bool) → is_closed after (close_b slots) ≡ b → is_closed after (20 * slots) ≡ false
          → is_closed after (witness_start slots) ≡ true
          → (turn_of slots after ≡ 0) × IsRing slots after
      by_b false b x z = (turn_marks after false false true x b z, λ ab bc. true≢false (sym z ∙ sym bc ∙ b))
      by_b true b x z = (turn_marks after false true true x b z, λ ab bc. true≢false (sym b ∙ sym ab ∙ x))

  pub one_turn : (m after : List ℕ) → turn_of slots m ≡ 1 → is_closed after (20 * slots) ≡ is_closed m (20 * slots)
      → is_closed after (close_b slots) ≡ is_closed m (close_b slots) → (turn_of slots after ≡ 1) × IsRing slots after
  one_turn m after t a b = let z = one_marks m t in
      by_c (is_closed after (witness_start slots)) refl (a ∙ z.0) (b ∙ z.1)
    where
      by_c : (c : Bool) → is_closed after (witness_start slots) ≡ c → is_closed after (20 * slots) ≡ true
          → is_closed after (close_b slots) ≡ false
          → (turn_of slots after ≡ 1) × IsRing slots after
      by_c c z x y = (turn_marks after true false c x y z, λ ab bc. true≢false (sym x ∙ ab ∙ y))

  pub two_turn : (m after : List ℕ) → turn_of slots m ≡ 2
      → is_closed after (close_b slots) ≡ is_closed m (close_b slots)
      → is_closed after (witness_start slots) ≡ is_closed m (witness_start slots) → (turn_of slots after ≡ 2)
      × IsRing slots after
  two_turn m after t b c = let z = two_marks m t in
      by_a (is_closed after (20 * slots)) refl (b ∙ z.0) (c ∙ z.1)
    where
      by_a : (a : Bool) → is_closed after (20 * slots) ≡ a → is_closed after (close_b slots) ≡ true
          → is_closed after (witness_start slots) ≡ false
          → (turn_of slots after ≡ 2) × IsRing slots after
      by_a false x y z = (turn_marks after false true false x y z, λ ab bc. true≢false (sym y ∙ bc ∙ z))
      by_a true x y z = (turn_marks after true true false x y z, λ ab bc. true≢false (sym y ∙ bc ∙ z))
