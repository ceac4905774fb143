-- The sectors of a flash with small sectors: 80 in each area, of 512 words but for the last one, of 514, and the
-- witness of two.
use Rattle.std.specs.Prelude.{◌≡◌, ◌<◌, ◌≤◌, ◌+◌, ◌-◌, ◌*◌, ℕ, Bool, true, false, nat_eq, nat_le, if◌then◌else◌}
use Rattle.std.proofs.Common.{◌∙◌, ap, ⊎_elim, arith}
use Rattle.std.proofs.lemmas.Bool.{cases_lt, le-leb, lt-leb}
use Rattle.flash_device.specs.FlashBlocks.{area_size}
use Rattle.flash_device.specs.declared.layout.TheConstants.{STEP_PAGES}
use Rattle.flash_area.specs.Spares.{spare_in, spare_sector}
use Rattle.sector_moves.specs.SectorSpares.{sector_lead, spare_slot}

abbrev pub small_sector : ℕ → ℕ
small_sector s = if nat_le s 79 then 512 * s
    else if nat_le s 159 then 40962 + 512 * (s - 80)
    else if nat_le s 160 then 81924 else 81926

in_a : (s : ℕ) → s ≤ 79 → small_sector s ≡ 512 * s
in_a s low = ap (λ (b : Bool). if b then 512 * s else if nat_le s 159 then 40962 + 512 * (s - 80)
    else if nat_le s 160 then 81924 else 81926) (le-leb s 79 low)

past_a : (s : ℕ) → 79 < s → small_sector s
    ≡ (if nat_le s 159 then 40962 + 512 * (s - 80) else if nat_le s 160 then 81924 else 81926)
past_a s high = ap (λ (b : Bool). if b then 512 * s else if nat_le s 159 then 40962 + 512 * (s - 80)
    else if nat_le s 160 then 81924 else 81926) (lt-leb s 79 high)

in_b : (s : ℕ) → 79 < s → s ≤ 159 → small_sector s ≡ 40962 + 512 * (s - 80)
in_b s high low = past_a s high
    ∙ ap (λ (b : Bool). if b then 40962 + 512 * (s - 80) else if nat_le s 160 then 81924 else 81926)
    (le-leb s 159 low)

past_b : (s : ℕ) → 159 < s → small_sector s ≡ (if nat_le s 160 then 81924 else 81926)
past_b s high =
    let past : 79 < s = omega (arith, high) in
    past_a s past
    ∙ ap (λ (b : Bool). if b then 40962 + 512 * (s - 80) else if nat_le s 160 then 81924 else 81926)
    (lt-leb s 159 high)

witness : (s : ℕ) → 159 < s → s ≤ 160 → small_sector s ≡ 81924
witness s high low = past_b s high ∙ ap (λ (b : Bool). if b then 81924 else 81926) (le-leb s 160 low)

behind : (s : ℕ) → 160 < s → small_sector s ≡ 81926
behind s high =
    let past : 159 < s = omega (arith, high) in
    past_b s past ∙ ap (λ (b : Bool). if b then 81924 else 81926) (lt-leb s 160 high)

-- each sector begins where the one before it ends
pub small_sectors_rise : (s : ℕ) → small_sector s ≤ small_sector (s + 1)
small_sectors_rise s = ⊎_elim
    (λ (first : s < 80). let a = in_a s (omega (arith, first)) in ⊎_elim
    (λ (low : s < 79). let b = in_a (s + 1) (omega (arith, low)) in omega (arith, a, b))
    (λ (last : 79 ≤ s).
    let b = in_b (s + 1) (omega (arith, last)) (omega (arith, first)) in omega (arith, a, b, first))
    (cases_lt s 79))
    (λ (second : 80 ≤ s). ⊎_elim
    (λ (low : s < 160). let a = in_b s (omega (arith, second)) (omega (arith, low)) in ⊎_elim
    (λ (lower : s < 159).
    let b = in_b (s + 1) (omega (arith, second)) (omega (arith, lower)) in omega (arith, a, b, second))
    (λ (last : 159 ≤ s).
    let b = witness (s + 1) (omega (arith, last)) (omega (arith, low)) in omega (arith, a, b, low, second))
    (cases_lt s 159))
    (λ (high : 160 ≤ s). let b = behind (s + 1) (omega (arith, high)) in ⊎_elim
    (λ (is : s < 161).
    let a = witness s (omega (arith, high)) (omega (arith, is)) in omega (arith, a, b))
    (λ (past : 161 ≤ s). let a = behind s (omega (arith, past)) in omega (arith, a, b))
    (cases_lt s 161))
    (cases_lt s 160))
    (cases_lt s 80)

-- where such a sector of the other area begins
small_begins : (turn n : ℕ) → n ≤ 64 → small_sector (spare_sector 80 turn + n) ≡ spare_in 2048 turn + 512 * n
small_begins turn n low = by (nat_eq turn 0)
  where
    by : (b : Bool) → small_sector ((if b then 80 else 0) + n) ≡ (if b then area_size 2048 else 0) + 512 * n
    by true = let is = in_b (80 + n) (omega arith) (omega (arith, low)) in omega (arith, is)
    by false = let is = in_a (0 + n) (omega (arith, low)) in omega (arith, is)

-- the sector of a step holds the slots of its pages, and one more
pub small_sectors_hold : (turn n : ℕ) → n < 64
    → small_sector (spare_sector 80 turn + n) + 20 * (STEP_PAGES + 2) ≤ small_sector (spare_sector 80 turn + (n + 1))
small_sectors_hold turn n low =
    let this = small_begins turn n (omega (arith, low)) in
    let next = small_begins turn (n + 1) (omega (arith, low)) in
    omega (arith, this, next)

-- behind the sectors of the steps there are more slots than the next move begins at
pub small_slots_left : (turn : ℕ) → spare_slot 2048 80 small_sector turn 64 + sector_lead 80 < 2048
small_slots_left turn =
    let this = small_begins turn 64 (omega arith) in
    omega (arith, this)
