-- Laws of the sectors of a simulated flash.
use Rattle.std.specs.Prelude.{◌≡◌, ◌<◌, ◌≤◌, ◌+◌, ◌-◌, ◌*◌, ℕ, Bool, true, false, nat_eq, nat_le, nat_lt}
use Rattle.std.specs.Prelude.{if◌then◌else◌}
use Rattle.std.proofs.Common.{◌∙◌, ap, ⊎_elim, arith}
use Rattle.std.proofs.lemmas.Bool.{cases_lt, le-leb, le-ltb, lt-leb, lt-ltb}
use Rattle.flash_device.specs.FlashBlocks.{area_size}
use Rattle.flash_device.specs.declared.layout.TheConstants.{STEP_PAGES}
use Rattle.flash_area.specs.Spares.{spare_in, spare_sector}
use Rattle.sector_moves.specs.SectorSpares.{sector_lead, spare_slot}
use Rattle.simulated_flashes.specs.EvenSectors.{even_sector}

even_in_a : (each area last s : ℕ) → s < last → even_sector each area last s ≡ each * s
even_in_a each area last s low = ap (λ (b : Bool). if b then each * s
    else if nat_lt s (2 * last) then area + each * (s - last)
    else if nat_le s (2 * last) then area + area else area + area + 2) (lt-ltb s last low)

even_past_a : (each area last s : ℕ) → last ≤ s → even_sector each area last s
    ≡ (if nat_lt s (2 * last) then area + each * (s - last)
    else if nat_le s (2 * last) then area + area else area + area + 2)
even_past_a each area last s high = ap (λ (b : Bool). if b then each * s
    else if nat_lt s (2 * last) then area + each * (s - last)
    else if nat_le s (2 * last) then area + area else area + area + 2) (le-ltb s last high)

even_in_b : (each area last s : ℕ) → last ≤ s → s < 2 * last → even_sector each area last s ≡ area + each * (s - last)
even_in_b each area last s high low = even_past_a each area last s high
    ∙ ap (λ (b : Bool). if b then area + each * (s - last)
    else if nat_le s (2 * last) then area + area else area + area + 2) (lt-ltb s (2 * last) low)

even_past_b : (each area last s : ℕ) → 2 * last ≤ s
    → even_sector each area last s ≡ (if nat_le s (2 * last) then area + area else area + area + 2)
even_past_b each area last s high =
    let past : last ≤ s = omega (arith, high) in
    even_past_a each area last s past
    ∙ ap (λ (b : Bool). if b then area + each * (s - last)
    else if nat_le s (2 * last) then area + area else area + area + 2) (le-ltb s (2 * last) high)

even_witness : (each area last s : ℕ) → 2 * last ≤ s → s ≤ 2 * last → even_sector each area last s ≡ area + area
even_witness each area last s high low = even_past_b each area last s high
    ∙ ap (λ (b : Bool). if b then area + area else area + area + 2) (le-leb s (2 * last) low)

even_behind : (each area last s : ℕ) → 2 * last < s → even_sector each area last s ≡ area + area + 2
even_behind each area last s high =
    let past : 2 * last ≤ s = omega (arith, high) in
    even_past_b each area last s past
    ∙ ap (λ (b : Bool). if b then area + area else area + area + 2) (lt-leb s (2 * last) high)

-- each sector begins where the one before it ends
pub even_sectors_rise : (each area last : ℕ) → each * last ≤ area
    → (s : ℕ) → even_sector each area last s ≤ even_sector each area last (s + 1)
even_sectors_rise each area last fit s = ⊎_elim
    (λ (first : s < last). let a = even_in_a each area last s first in ⊎_elim
    (λ (low : s + 1 < last). let b = even_in_a each area last (s + 1) low in omega (arith, a, b))
    (λ (end : last ≤ s + 1).
    let b = even_in_b each area last (s + 1) end (omega (arith, first)) in
    let is : last ≡ s + 1 = omega (arith, first, end) in
    let all = ap (λ (k : ℕ). each * k) is in omega (arith, a, b, all, fit))
    (cases_lt (s + 1) last))
    (λ (from : last ≤ s). ⊎_elim
    (λ (second : s < 2 * last). let a = even_in_b each area last s from second in ⊎_elim
    (λ (low : s + 1 < 2 * last).
    let b = even_in_b each area last (s + 1) (omega (arith, from)) low in
    let is : (s + 1) - last ≡ (s - last) + 1 = omega (arith, from) in
    let all = ap (λ (k : ℕ). each * k) is in omega (arith, a, b, all))
    (λ (end : 2 * last ≤ s + 1).
    let b = even_witness each area last (s + 1) end (omega (arith, second)) in
    let is : last ≡ (s - last) + 1 = omega (arith, from, second, end) in
    let all = ap (λ (k : ℕ). each * k) is in omega (arith, a, b, all, fit))
    (cases_lt (s + 1) (2 * last)))
    (λ (high : 2 * last ≤ s). let b = even_behind each area last (s + 1) (omega (arith, high)) in ⊎_elim
    (λ (past : 2 * last < s). let a = even_behind each area last s past in omega (arith, a, b))
    (λ (is : s ≤ 2 * last). let a = even_witness each area last s high is in omega (arith, a, b))
    (cases_lt (2 * last) s))
    (cases_lt s (2 * last)))
    (cases_lt s last)

-- each block has sectors of its own
pub even_sectors_fit : (each area last : ℕ) → (0 < last) × (last < 32768)
    → (even_sector each area last 0 ≡ 0) × (even_sector each area last last ≡ area)
    × (even_sector each area last (2 * last) ≡ area + area)
    × (even_sector each area last (2 * last + 1) ≡ area + area + 2) × (0 < last) × (last < 32768)
even_sectors_fit each area last sectors =
    let some = sectors.0 in
    let a = even_in_a each area last 0 some in
    let b = even_in_b each area last last (omega arith) (omega (arith, some)) in
    let none : last - last ≡ 0 = omega arith in
    let all = ap (λ (k : ℕ). each * k) none in (
      omega (arith, a),
      omega (arith, b, all),
      even_witness each area last (2 * last) (omega arith) (omega arith),
      even_behind each area last (2 * last + 1) (omega arith),
      some,
      sectors.1,
    )

-- where a sector of the other area begins
even_begins : (each slots last turn n : ℕ) → n < last
    → even_sector each (area_size slots) last (spare_sector last turn + n) ≡ spare_in slots turn + each * n
even_begins each slots last turn n low = by (nat_eq turn 0)
  where
    by : (b : Bool) → even_sector each (area_size slots) last ((if b then last else 0) + n)
        ≡ (if b then area_size slots else 0) + each * n
    by true =
        let is = even_in_b each (area_size slots) last (last + n) (omega arith) (omega (arith, low)) in
        let same : (last + n) - last ≡ n = omega arith in
        is ∙ ap (λ (k : ℕ). area_size slots + each * k) same
    by false =
        let is = even_in_a each (area_size slots) last (0 + n) (omega (arith, low)) in
        let same : each * (0 + n) ≡ 0 + each * n = omega arith in
        is ∙ same

-- the sector of a step of such small sectors holds the slots of its pages, and one more
pub even_sectors_hold : (turn n : ℕ) → n < 64
    → even_sector 512 (area_size 2048) 80 (spare_sector 80 turn + n) + 20 * (STEP_PAGES + 2)
    ≤ even_sector 512 (area_size 2048) 80 (spare_sector 80 turn + (n + 1))
even_sectors_hold turn n low =
    let this = even_begins 512 2048 80 turn n (omega (arith, low)) in
    let next = even_begins 512 2048 80 turn (n + 1) (omega (arith, low)) in
    omega (arith, this, next)

-- behind the sectors of the steps there are more slots than the next move begins at
pub even_slots_left : (turn : ℕ)
    → spare_slot 2048 80 (even_sector 512 (area_size 2048) 80) turn 64 + sector_lead 80 < 2048
even_slots_left turn =
    let this = even_begins 512 2048 80 turn 64 (omega arith) in
    omega (arith, this)
