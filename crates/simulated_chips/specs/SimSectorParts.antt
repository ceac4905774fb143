-- The sectors of a flash of the tests: two in each area, of 12,801 words, and the witness of two.
use Rattle.std.specs.Prelude.{◌≡◌, ◌<◌, ◌≤◌, ◌+◌, ◌*◌, ℕ, Bool, true, false, nat_le, if◌then◌else◌}
use Rattle.std.proofs.Common.{refl, sym, ◌∙◌, ap, ⊎_elim, subst, arith}
use Rattle.std.proofs.lemmas.Bool.{cases_lt, le-leb, leb-true}

abbrev pub sim_sector : ℕ → ℕ
sim_sector s = if nat_le s 4 then 12801 * s else 51206

sim_sector_low : (s : ℕ) → s ≤ 4 → sim_sector s ≡ 12801 * s
sim_sector_low s low = ap (λ (b : Bool). if b then 12801 * s else 51206) (le-leb s 4 low)

sim_sector_most : (s : ℕ) → sim_sector s ≤ 51206
sim_sector_most s = by_test (nat_le s 4) refl
  where
    by_test : (b : Bool) → nat_le s 4 ≡ b → (if b then 12801 * s else 51206) ≤ 51206
    by_test true e = let low = leb-true s 4 e in omega (arith, low)
    by_test false e = omega arith

sim_sector_high : (s : ℕ) → 4 < s → sim_sector s ≡ 51206
sim_sector_high s high = by_test (nat_le s 4) refl
  where
    by_test : (b : Bool) → nat_le s 4 ≡ b → (if b then 12801 * s else 51206) ≡ 51206
    by_test true e = let low = leb-true s 4 e in absurd (omega (arith, low, high))
    by_test false e = refl

-- each sector begins where the one before it ends
pub sim_sectors_rise : (s : ℕ) → sim_sector s ≤ sim_sector (s + 1)
sim_sectors_rise s = ⊎_elim
    (λ (low : s < 4).
    let a = sim_sector_low s (omega (arith, low)) in
    let b = sim_sector_low (s + 1) (omega (arith, low)) in omega (arith, a, b))
    (λ (high : 4 ≤ s).
    let a = sim_sector_most s in
    let b = sim_sector_high (s + 1) (omega (arith, high)) in omega (arith, a, b))
    (cases_lt s 4)
