-- The sectors of a simulated device with program units: some of one size, and behind them the witness of one frame.
use Rattle.std.specs.Prelude.{◌≡◌, ◌<◌, ◌≤◌, ◌+◌, ◌-◌, ◌*◌, ℕ, Bool, true, false, nat_eq, nat_le, if◌then◌else◌}
use Rattle.std.proofs.Common.{ap, ⊎_elim, arith, lit<}
use Rattle.std.proofs.lemmas.Bool.{cases_lt, le-leb, lt-leb}
use Rattle.flash_device.specs.declared.layout.TheConstants.{STEP_PAGES}
use Rattle.flash_area.specs.Spares.{spare_sector}
use Rattle.sector_moves.specs.SectorSpares.{sector_lead}

-- the first frame of a sector, where so many of one size come before the witness
abbrev pub even_frame : ℕ → ℕ → ℕ → ℕ
even_frame each last s = if nat_le s last then each * s else each * last + 1

even_low : (each last s : ℕ) → s ≤ last → even_frame each last s ≡ each * s
even_low each last s low = ap (λ (b : Bool). if b then each * s else each * last + 1) (le-leb s last low)

even_high : (each last s : ℕ) → last < s → even_frame each last s ≡ each * last + 1
even_high each last s high = ap (λ (b : Bool). if b then each * s else each * last + 1) (lt-leb s last high)

-- each sector begins where the one before it ends
pub even_frames_rise : (each last s : ℕ) → even_frame each last s ≤ even_frame each last (s + 1)
even_frames_rise each last s = ⊎_elim
    (λ (low : s < last).
    let a = even_low each last s (omega (arith, low)) in
    let b = even_low each last (s + 1) (omega (arith, low)) in omega (arith, a, b))
    (λ (from : last ≤ s).
    let b = even_high each last (s + 1) (omega (arith, from)) in ⊎_elim
    (λ (past : last < s). let a = even_high each last s past in omega (arith, a, b))
    (λ (is : s ≤ last).
    let a = even_low each last s is in
    let same : s ≡ last = omega (arith, from, is) in
    let end = ap (λ (k : ℕ). each * k) same in omega (arith, a, b, end))
    (cases_lt last s))
    (cases_lt s last)

-- the sector of a step has a frame for each of its pages, and two more
pub small_frames_hold : (turn n : ℕ) → n < 64
    → even_frame 26 160 (spare_sector 80 turn + n) + (STEP_PAGES + 2)
    ≤ even_frame 26 160 (spare_sector 80 turn + (n + 1))
small_frames_hold turn n low = by (nat_eq turn 0)
  where
    by : (b : Bool) → even_frame 26 160 ((if b then 80 else 0) + n) + (STEP_PAGES + 2)
        ≤ even_frame 26 160 ((if b then 80 else 0) + (n + 1))
    by true =
        let this = even_low 26 160 (80 + n) (omega (arith, low)) in
        let next = even_low 26 160 (80 + (n + 1)) (omega (arith, low)) in omega (arith, this, next)
    by false =
        let this = even_low 26 160 (0 + n) (omega (arith, low)) in
        let next = even_low 26 160 (0 + (n + 1)) (omega (arith, low)) in omega (arith, this, next)

-- behind the sectors of the steps there are more slots than the next move begins at
pub small_frames_left : (turn : ℕ) → even_frame 26 160 (spare_sector 80 turn + 64)
    - even_frame 26 160 (spare_sector 80 turn) + sector_lead 80 < 2079
small_frames_left turn = by (nat_eq turn 0)
  where
    by : (b : Bool) → even_frame 26 160 ((if b then 80 else 0) + 64)
        - even_frame 26 160 (if b then 80 else 0) + sector_lead 80 < 2079
    by true = lit< tt
    by false = lit< tt
