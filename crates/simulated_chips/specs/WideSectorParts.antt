-- The sectors of a flash with 4,096 pages: one in each area, of 96,002 words, and the witness of two.
use Rattle.std.specs.Prelude.{◌≡◌, ◌<◌, ◌≤◌, ◌+◌, ◌*◌, ℕ, Bool, true, false, nat_le, if◌then◌else◌}
use Rattle.std.proofs.Common.{refl, sym, ◌∙◌, ap, ⊎_elim, subst, arith}
use Rattle.std.proofs.lemmas.Bool.{cases_lt, le-leb, leb-true}

abbrev pub wide_sector : ℕ → ℕ
wide_sector s = if nat_le s 2 then 96002 * s else 192006

wide_sector_low : (s : ℕ) → s ≤ 2 → wide_sector s ≡ 96002 * s
wide_sector_low s low = ap (λ (b : Bool). if b then 96002 * s else 192006) (le-leb s 2 low)

wide_sector_most : (s : ℕ) → wide_sector s ≤ 192006
wide_sector_most s = by_test (nat_le s 2) refl
  where
    by_test : (b : Bool) → nat_le s 2 ≡ b → (if b then 96002 * s else 192006) ≤ 192006
    by_test true e = let low = leb-true s 2 e in omega (arith, low)
    by_test false e = omega arith

wide_sector_high : (s : ℕ) → 2 < s → wide_sector s ≡ 192006
wide_sector_high s high = by_test (nat_le s 2) refl
  where
    by_test : (b : Bool) → nat_le s 2 ≡ b → (if b then 96002 * s else 192006) ≡ 192006
    by_test true e = let low = leb-true s 2 e in absurd (omega (arith, low, high))
    by_test false e = refl

-- each sector begins where the one before it ends
pub wide_sectors_rise : (s : ℕ) → wide_sector s ≤ wide_sector (s + 1)
wide_sectors_rise s = ⊎_elim
    (λ (low : s < 2).
    let a = wide_sector_low s (omega (arith, low)) in
    let b = wide_sector_low (s + 1) (omega (arith, low)) in omega (arith, a, b))
    (λ (high : 2 ≤ s).
    let a = wide_sector_most s in
    let b = wide_sector_high (s + 1) (omega (arith, high)) in omega (arith, a, b))
    (cases_lt s 2)
