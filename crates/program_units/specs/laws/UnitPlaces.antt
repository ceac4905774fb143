-- Laws of frames: where each word of a log lies.
use Rattle.std.specs.Prelude.{◌≡◌, ◌<◌, ◌≤◌, ◌+◌, ◌-◌, ◌*◌, ◌/◌, ◌%◌, ℕ, Bool}
use Rattle.std.specs.Prelude.{nat_le, if◌then◌else◌}
use Rattle.std.proofs.Common.{refl, sym, ◌∙◌, ap, ap₂, subst, ⊎_elim, arith}
use Rattle.std.proofs.lemmas.Bool.{cases_lt, le-leb, lt-leb}
use Rattle.flash_device.specs.FlashBlocks.{area_size, flash_size, witness_start}
use Rattle.flash_device.specs.laws.Rising.{rises_to}
use Rattle.program_units.specs.UnitFrames.{frame_count, frame_in, frame_of, frame_start, place_in, rank_in, rank_of}

-- The frame and the rank of a word.
pub record LiesAt (slots a f r : ℕ) : Type 0 where
  pub frame : frame_of slots a ≡ f
  pub rank : rank_of slots a ≡ r

low : (slots a x y z : ℕ) → a < area_size slots
    → (if nat_le (witness_start slots) a then x else if nat_le (area_size slots) a then y else z) ≡ z
low slots a x y z lt =
    let first : a < witness_start slots = omega (arith, lt) in
    ap (λ (b : Bool). if b then x else if nat_le (area_size slots) a then y else z)
    (lt-leb (witness_start slots) a first) ∙ ap (λ (b : Bool). if b then y else z) (lt-leb (area_size slots) a lt)

middle : (slots a x y z : ℕ) → area_size slots ≤ a → a < witness_start slots
    → (if nat_le (witness_start slots) a then x else if nat_le (area_size slots) a then y else z) ≡ y
middle slots a x y z ge lt =
    ap (λ (b : Bool). if b then x else if nat_le (area_size slots) a then y else z)
    (lt-leb (witness_start slots) a lt) ∙ ap (λ (b : Bool). if b then y else z) (le-leb (area_size slots) a ge)

-- what the frame and the rank are, by the block
pub in_area_a : (slots a : ℕ) → a < area_size slots → LiesAt slots a (frame_in slots a) (rank_in slots a)
unfolding frame_of rank_of
in_area_a slots a lt = record { frame = low slots a _ _ _ lt; rank = low slots a _ _ _ lt }

pub in_area_b : (slots a : ℕ) → area_size slots ≤ a → a < witness_start slots
    → LiesAt slots a (slots + 1 + frame_in slots (a - area_size slots)) (rank_in slots (a - area_size slots))
unfolding frame_of rank_of
in_area_b slots a ge lt = record { frame = middle slots a _ _ _ ge lt; rank = middle slots a _ _ _ ge lt }

pub in_witness : (slots a : ℕ) → witness_start slots ≤ a
    → LiesAt slots a (2 * slots + 2) (18 + (a - witness_start slots))
unfolding frame_of rank_of
in_witness slots a from =
    let is_there = le-leb (witness_start slots) a from in record {
      frame = ap (λ (b : Bool). if b then 2 * slots + 2 else if nat_le (area_size slots) a
          then slots + 1 + frame_in slots (a - area_size slots) else frame_in slots a) is_there;
      rank = ap (λ (b : Bool). if b then 18 + (a - witness_start slots) else if nat_le (area_size slots) a
          then rank_in slots (a - area_size slots) else rank_in slots a) is_there;
    }

in_slot : (slots r x y : ℕ) → r < 20 * slots → (if nat_le (20 * slots) r then x else y) ≡ y
in_slot slots r x y lt = ap (λ (b : Bool). if b then x else y) (lt-leb (20 * slots) r lt)

in_close : (slots r x y : ℕ) → 20 * slots ≤ r → (if nat_le (20 * slots) r then x else y) ≡ x
in_close slots r x y ge = ap (λ (b : Bool). if b then x else y) (le-leb (20 * slots) r ge)

-- a word of a slot of area A
pub lies_in_a : (slots s k : ℕ) → s < slots → k < 20 → LiesAt slots (20 * s + k) s k
unfolding frame_of rank_of
lies_in_a slots s k below few =
    let a = 20 * s + k in
    let inside : a < 20 * slots = omega (arith, below, few) in
    let area : a < area_size slots = omega (arith, inside) in
    let number : a / 20 ≡ s = omega (arith, few) in
    let place : a % 20 ≡ k = omega (arith, few) in record {
      frame = low slots a _ _ _ area ∙ in_slot slots a _ _ inside ∙ number;
      rank = low slots a _ _ _ area ∙ in_slot slots a _ _ inside ∙ place;
    }

-- a word of the close mark of area A
pub closes_a : (slots j : ℕ) → j < 2 → LiesAt slots (20 * slots + j) slots (18 + j)
unfolding frame_of rank_of
closes_a slots j few =
    let a = 20 * slots + j in
    let past : 20 * slots ≤ a = omega arith in
    let area : a < area_size slots = omega (arith, few) in
    let rank : 18 + (a - 20 * slots) ≡ 18 + j = omega arith in record {
      frame = low slots a _ _ _ area ∙ in_close slots a _ _ past;
      rank = low slots a _ _ _ area ∙ in_close slots a _ _ past ∙ rank;
    }

-- a word of a slot of area B
pub lies_in_b : (slots s k : ℕ) → s < slots → k < 20
    → LiesAt slots (area_size slots + (20 * s + k)) (slots + 1 + s) k
unfolding frame_of rank_of
lies_in_b slots s k below few =
    let a = area_size slots + (20 * s + k) in
    let r = a - area_size slots in
    let inside : r < 20 * slots = omega (arith, below, few) in
    let from : area_size slots ≤ a = omega arith in
    let area : a < witness_start slots = omega (arith, below, few) in
    let number : slots + 1 + r / 20 ≡ slots + 1 + s = omega (arith, few) in
    let place : r % 20 ≡ k = omega (arith, few) in record {
      frame = middle slots a _ _ _ from area ∙ ap (λ (n : ℕ). slots + 1 + n) (in_slot slots r _ _ inside) ∙ number;
      rank = middle slots a _ _ _ from area ∙ in_slot slots r _ _ inside ∙ place;
    }

-- a word of the close mark of area B
pub closes_b : (slots j : ℕ) → j < 2
    → LiesAt slots (area_size slots + 20 * slots + j) (2 * slots + 1) (18 + j)
unfolding frame_of rank_of
closes_b slots j few =
    let a = area_size slots + 20 * slots + j in
    let r = a - area_size slots in
    let past : 20 * slots ≤ r = omega arith in
    let from : area_size slots ≤ a = omega arith in
    let area : a < witness_start slots = omega (arith, few) in
    let number : slots + 1 + slots ≡ 2 * slots + 1 = omega arith in
    let rank : 18 + (r - 20 * slots) ≡ 18 + j = omega arith in record {
      frame = middle slots a _ _ _ from area ∙ ap (λ (n : ℕ). slots + 1 + n) (in_close slots r _ _ past) ∙ number;
      rank = middle slots a _ _ _ from area ∙ in_close slots r _ _ past ∙ rank;
    }

-- a word of the witness
pub closes_witness : (slots j : ℕ) → LiesAt slots (witness_start slots + j) (2 * slots + 2) (18 + j)
closes_witness slots j =
    let is = in_witness slots (witness_start slots + j) (omega arith) in
    let rank : 18 + (witness_start slots + j - witness_start slots) ≡ 18 + j = omega arith in
    record { frame = is.frame; rank = is.rank ∙ rank }

-- where frames begin
pub start_low : (slots f : ℕ) → f ≤ slots → frame_start slots f ≡ 20 * f
unfolding frame_start
start_low slots f le = ap (λ (b : Bool). if b then 20 * f else if nat_le f (2 * slots + 1) then 20 * f - 18
    else if nat_le f (2 * slots + 2) then witness_start slots else flash_size slots) (le-leb f slots le)

pub start_middle : (slots f : ℕ) → slots < f → f ≤ 2 * slots + 1 → frame_start slots f ≡ 20 * f - 18
unfolding frame_start
start_middle slots f past le =
    ap (λ (b : Bool). if b then 20 * f else if nat_le f (2 * slots + 1) then 20 * f - 18
    else if nat_le f (2 * slots + 2) then witness_start slots else flash_size slots) (lt-leb f slots past)
    ∙ ap (λ (b : Bool). if b then 20 * f - 18
    else if nat_le f (2 * slots + 2) then witness_start slots else flash_size slots) (le-leb f (2 * slots + 1) le)

start_past : (slots f : ℕ) → 2 * slots + 1 < f
    → frame_start slots f ≡ (if nat_le f (2 * slots + 2) then witness_start slots else flash_size slots)
unfolding frame_start
start_past slots f past =
    let first : slots < f = omega (arith, past) in
    ap (λ (b : Bool). if b then 20 * f else if nat_le f (2 * slots + 1) then 20 * f - 18
    else if nat_le f (2 * slots + 2) then witness_start slots else flash_size slots) (lt-leb f slots first)
    ∙ ap (λ (b : Bool). if b then 20 * f - 18
    else if nat_le f (2 * slots + 2) then witness_start slots else flash_size slots) (lt-leb f (2 * slots + 1) past)

pub start_witness : (slots f : ℕ) → f ≡ 2 * slots + 2 → frame_start slots f ≡ witness_start slots
start_witness slots f is =
    start_past slots f (omega (arith, is))
    ∙ ap (λ (b : Bool). if b then witness_start slots else flash_size slots)
    (le-leb f (2 * slots + 2) (omega (arith, is)))

pub start_end : (slots f : ℕ) → 2 * slots + 2 < f → frame_start slots f ≡ flash_size slots
start_end slots f past =
    start_past slots f (omega (arith, past))
    ∙ ap (λ (b : Bool). if b then witness_start slots else flash_size slots) (lt-leb f (2 * slots + 2) past)

start_next : (slots f : ℕ) → frame_start slots f ≤ frame_start slots (f + 1)
start_next slots f = ⊎_elim
    (λ (a : f < slots).
    let x = start_low slots f (omega (arith, a)) in
    let y = start_low slots (f + 1) (omega (arith, a)) in omega (arith, x, y))
    (λ (from : slots ≤ f). ⊎_elim
    (λ (b : f < 2 * slots + 1). ⊎_elim
    (λ (past : slots < f).
    let x = start_middle slots f past (omega (arith, b)) in
    let y = start_middle slots (f + 1) (omega (arith, past)) (omega (arith, b)) in omega (arith, x, y))
    (λ (last : f ≤ slots).
    let x = start_low slots f last in
    let y = start_middle slots (f + 1) (omega (arith, from)) (omega (arith, b)) in omega (arith, x, y, from, last))
    (cases_lt slots f))
    (λ (past : 2 * slots + 1 ≤ f). ⊎_elim
    (λ (here : f < 2 * slots + 2).
    let is : f ≡ 2 * slots + 1 = omega (arith, past, here) in
    let x = start_of_close slots f is in
    let y = start_witness slots (f + 1) (omega (arith, is)) in omega (arith, x, y, is))
    (λ (behind : 2 * slots + 2 ≤ f). ⊎_elim
    (λ (end : 2 * slots + 2 < f).
    let x = start_end slots f end in
    let y = start_end slots (f + 1) (omega (arith, end)) in omega (arith, x, y))
    (λ (most : f ≤ 2 * slots + 2).
    let is : f ≡ 2 * slots + 2 = omega (arith, most, behind) in
    let x = start_witness slots f is in
    let y = start_end slots (f + 1) (omega (arith, is)) in omega (arith, x, y))
    (cases_lt (2 * slots + 2) f))
    (cases_lt f (2 * slots + 2)))
    (cases_lt f (2 * slots + 1)))
    (cases_lt f slots)
  where
    start_of_close : (slots f : ℕ) → f ≡ 2 * slots + 1 → frame_start slots f ≤ 40 * slots + 2
    start_of_close slots f is = ⊎_elim
        (λ (past : slots < f). let x = start_middle slots f past (omega (arith, is)) in omega (arith, x, is))
        (λ (not_past : f ≤ slots). absurd (omega (arith, not_past, is)))
        (cases_lt slots f)

-- the frames rise, so sectors do
pub starts_rise : (slots f g : ℕ) → f ≤ g → frame_start slots f ≤ frame_start slots g
starts_rise slots f g le = rises_to (frame_start slots) (start_next slots) f g le

-- where the blocks begin and end, by the frames of their sectors
pub starts_fit : (slots sectors : ℕ) (first : ℕ → ℕ)
    → (first 0 ≡ 0) × (first sectors ≡ slots + 1) × (first (2 * sectors) ≡ 2 * slots + 2)
    × (first (2 * sectors + 1) ≡ frame_count slots) × (0 < sectors) × (sectors < 32768)
    → (frame_start slots (first 0) ≡ 0) × (frame_start slots (first sectors) ≡ area_size slots)
    × (frame_start slots (first (2 * sectors)) ≡ witness_start slots)
    × (frame_start slots (first (2 * sectors + 1)) ≡ flash_size slots) × (0 < sectors) × (sectors < 32768)
starts_fit slots sectors first (a, b, c, d, few, most) =
    let none = start_low slots 0 (omega arith) in
    let second : frame_start slots (slots + 1) ≡ area_size slots = at_b in
    let past : 2 * slots + 2 < frame_count slots = omega arith in (
      ap (frame_start slots) a ∙ none,
      ap (frame_start slots) b ∙ second,
      start_witness slots (first (2 * sectors)) c,
      ap (frame_start slots) d ∙ start_end slots (frame_count slots) past,
      few,
      most,
    )
  where
    at_b : frame_start slots (slots + 1) ≡ area_size slots
    at_b = let x = start_middle slots (slots + 1) (omega arith) (omega arith) in
        let y : 20 * (slots + 1) - 18 ≡ area_size slots = omega arith in x ∙ y

-- the address that a frame's words are counted from
unfoldable pub origin : ℕ → ℕ → ℕ
origin slots f =
    if nat_le (2 * slots + 2) f then 40 * slots - 14
    else if nat_le (2 * slots + 1) f then 20 * f - 36
    else if nat_le slots f then 20 * f - 18
    else 20 * f

-- What is known of a word: its frame, and its rank there.
pub record IsPlaced (slots a : ℕ) : Type 0 where
  pub from : frame_start slots (frame_of slots a) ≤ a
  pub before : a < frame_start slots (frame_of slots a + 1)
  pub counted : a ≡ origin slots (frame_of slots a) + rank_of slots a
  pub few : rank_of slots a < 20
  pub within : frame_of slots a < frame_count slots

placed_by : (slots a f r : ℕ) → LiesAt slots a f r → frame_start slots f ≤ a → a < frame_start slots (f + 1)
    → a ≡ origin slots f + r → r < 20 → f < frame_count slots → IsPlaced slots a
placed_by slots a f r lies from before counted few within = record {
  from = subst (λ (n : ℕ). frame_start slots n ≤ a) (sym lies.frame) from;
  before = subst (λ (n : ℕ). a < frame_start slots (n + 1)) (sym lies.frame) before;
  counted = counted ∙ sym (ap₂ (λ (n k : ℕ). origin slots n + k) lies.frame lies.rank);
  few = subst (λ (n : ℕ). n < 20) (sym lies.rank) few;
  within = subst (λ (n : ℕ). n < frame_count slots) (sym lies.frame) within;
}

origin_a : (slots f : ℕ) → f < slots → origin slots f ≡ 20 * f
unfolding origin
origin_a slots f lt =
    let x : f < 2 * slots + 2 = omega (arith, lt) in
    let y : f < 2 * slots + 1 = omega (arith, lt) in
    ap (λ (b : Bool). if b then 40 * slots - 14 else if nat_le (2 * slots + 1) f then 20 * f - 36
    else if nat_le slots f then 20 * f - 18 else 20 * f) (lt-leb (2 * slots + 2) f x)
    ∙ ap (λ (b : Bool). if b then 20 * f - 36
    else if nat_le slots f then 20 * f - 18 else 20 * f) (lt-leb (2 * slots + 1) f y)
    ∙ ap (λ (b : Bool). if b then 20 * f - 18 else 20 * f) (lt-leb slots f lt)

origin_b : (slots f : ℕ) → slots ≤ f → f < 2 * slots + 1 → origin slots f ≡ 20 * f - 18
unfolding origin
origin_b slots f ge lt =
    let x : f < 2 * slots + 2 = omega (arith, lt) in
    ap (λ (b : Bool). if b then 40 * slots - 14 else if nat_le (2 * slots + 1) f then 20 * f - 36
    else if nat_le slots f then 20 * f - 18 else 20 * f) (lt-leb (2 * slots + 2) f x)
    ∙ ap (λ (b : Bool). if b then 20 * f - 36
    else if nat_le slots f then 20 * f - 18 else 20 * f) (lt-leb (2 * slots + 1) f lt)
    ∙ ap (λ (b : Bool). if b then 20 * f - 18 else 20 * f) (le-leb slots f ge)

origin_close_b : (slots : ℕ) → origin slots (2 * slots + 1) ≡ 20 * (2 * slots + 1) - 36
unfolding origin
origin_close_b slots =
    let f = 2 * slots + 1 in
    let x : f < 2 * slots + 2 = omega arith in
    let y : 2 * slots + 1 ≤ f = omega arith in
    ap (λ (b : Bool). if b then 40 * slots - 14 else if nat_le (2 * slots + 1) f then 20 * f - 36
    else if nat_le slots f then 20 * f - 18 else 20 * f) (lt-leb (2 * slots + 2) f x)
    ∙ ap (λ (b : Bool). if b then 20 * f - 36
    else if nat_le slots f then 20 * f - 18 else 20 * f) (le-leb (2 * slots + 1) f y)

origin_witness : (slots : ℕ) → origin slots (2 * slots + 2) ≡ 40 * slots - 14
unfolding origin
origin_witness slots =
    let f = 2 * slots + 2 in
    let y : 2 * slots + 2 ≤ f = omega arith in
    ap (λ (b : Bool). if b then 40 * slots - 14 else if nat_le (2 * slots + 1) f then 20 * f - 36
    else if nat_le slots f then 20 * f - 18 else 20 * f) (le-leb (2 * slots + 2) f y)

lies_by : (slots a b f r : ℕ) → b ≡ a → LiesAt slots b f r → LiesAt slots a f r
lies_by slots a b f r e lies = subst (λ (n : ℕ). LiesAt slots n f r) e lies

placed_in_a : (slots a : ℕ) → a < 20 * slots → IsPlaced slots a
placed_in_a slots a lt =
    let s : a / 20 < slots = omega (arith, lt) in
    let k : a % 20 < 20 = omega arith in
    let e : 20 * (a / 20) + a % 20 ≡ a = omega arith in
    let x = start_low slots (a / 20) (omega (arith, s)) in
    let y = start_low slots (a / 20 + 1) (omega (arith, s)) in
    let z = origin_a slots (a / 20) s in
    placed_by slots a (a / 20) (a % 20) (lies_by slots a _ _ _ e (lies_in_a slots (a / 20) (a % 20) s k))
    (omega (arith, x)) (omega (arith, y)) (omega (arith, z)) k (omega (arith, s))

placed_close_a : (slots a : ℕ) → 0 < slots → 20 * slots ≤ a → a < area_size slots → IsPlaced slots a
placed_close_a slots a some ge lt =
    let j = a - 20 * slots in
    let few : j < 2 = omega (arith, lt, ge) in
    let e : 20 * slots + j ≡ a = omega (arith, ge) in
    let x = start_low slots slots (omega arith) in
    let y = start_middle slots (slots + 1) (omega arith) (omega (arith, some)) in
    let z = origin_b slots slots (omega arith) (omega (arith, some)) in
    placed_by slots a slots (18 + j) (lies_by slots a _ _ _ e (closes_a slots j few))
    (omega (arith, x, ge)) (omega (arith, y, lt)) (omega (arith, z, ge, some)) (omega (arith, few)) (omega arith)

placed_in_b : (slots a : ℕ) → area_size slots ≤ a → a < area_size slots + 20 * slots → IsPlaced slots a
placed_in_b slots a ge lt =
    let r = a - area_size slots in
    let s : r / 20 < slots = omega (arith, lt, ge) in
    let k : r % 20 < 20 = omega arith in
    let f = slots + 1 + r / 20 in
    let e : area_size slots + (20 * (r / 20) + r % 20) ≡ a = omega (arith, ge) in
    let x = start_middle slots f (omega arith) (omega (arith, s)) in
    let y = start_middle slots (f + 1) (omega arith) (omega (arith, s)) in
    let z = origin_b slots f (omega arith) (omega (arith, s)) in
    placed_by slots a f (r % 20) (lies_by slots a _ _ _ e (lies_in_b slots (r / 20) (r % 20) s k))
    (omega (arith, x, e)) (omega (arith, y, e, k)) (omega (arith, z, e)) k (omega (arith, s))

placed_close_b : (slots a : ℕ) → 0 < slots → area_size slots + 20 * slots ≤ a → a < witness_start slots
    → IsPlaced slots a
placed_close_b slots a some ge lt =
    let j = a - (area_size slots + 20 * slots) in
    let few : j < 2 = omega (arith, lt, ge) in
    let e : area_size slots + 20 * slots + j ≡ a = omega (arith, ge) in
    let x = start_middle slots (2 * slots + 1) (omega arith) (omega arith) in
    let y = start_witness slots (2 * slots + 1 + 1) (omega arith) in
    let z = origin_close_b slots in
    placed_by slots a (2 * slots + 1) (18 + j) (lies_by slots a _ _ _ e (closes_b slots j few))
    (omega (arith, x, ge)) (omega (arith, y, lt)) (omega (arith, z, e, some)) (omega (arith, few)) (omega arith)

placed_witness : (slots a : ℕ) → 0 < slots → witness_start slots ≤ a → a < flash_size slots → IsPlaced slots a
placed_witness slots a some ge lt =
    let j = a - witness_start slots in
    let few : j < 2 = omega (arith, lt, ge) in
    let e : witness_start slots + j ≡ a = omega (arith, ge) in
    let x = start_witness slots (2 * slots + 2) refl in
    let y = start_end slots (2 * slots + 2 + 1) (omega arith) in
    let z = origin_witness slots in
    placed_by slots a (2 * slots + 2) (18 + j) (lies_by slots a _ _ _ e (closes_witness slots j))
    (omega (arith, x, ge)) (omega (arith, y, lt)) (omega (arith, z, e, some)) (omega (arith, few)) (omega arith)

-- each word of the log
pub placed : (slots a : ℕ) → 0 < slots → a < flash_size slots → IsPlaced slots a
placed slots a some lt = ⊎_elim
    (λ (x : a < 20 * slots). placed_in_a slots a x)
    (λ (from : 20 * slots ≤ a). ⊎_elim
    (λ (x : a < area_size slots). placed_close_a slots a some from x)
    (λ (b : area_size slots ≤ a). ⊎_elim
    (λ (x : a < area_size slots + 20 * slots). placed_in_b slots a b x)
    (λ (c : area_size slots + 20 * slots ≤ a). ⊎_elim
    (λ (x : a < witness_start slots). placed_close_b slots a some c x)
    (λ (d : witness_start slots ≤ a). placed_witness slots a some d lt)
    (cases_lt a (witness_start slots)))
    (cases_lt a (area_size slots + 20 * slots)))
    (cases_lt a (area_size slots)))
    (cases_lt a (20 * slots))

-- a word before the first one of a frame is in an earlier one
pub before_frame : (slots a f : ℕ) → IsPlaced slots a → a < frame_start slots f → frame_of slots a < f
before_frame slots a f is lt = ⊎_elim
    (λ (x : frame_of slots a < f). x)
    (λ (ge : f ≤ frame_of slots a).
    let up = starts_rise slots f (frame_of slots a) ge in absurd (omega (arith, up, is.from, lt)))
    (cases_lt (frame_of slots a) f)

-- and one from there on is in that frame or a later one
pub from_frame : (slots a f : ℕ) → IsPlaced slots a → frame_start slots f ≤ a → f ≤ frame_of slots a
from_frame slots a f is ge = ⊎_elim
    (λ (lt : frame_of slots a < f).
    let next : frame_of slots a + 1 ≤ f = omega (arith, lt) in
    let up = starts_rise slots (frame_of slots a + 1) f next in absurd (omega (arith, up, is.before, ge)))
    (λ (x : f ≤ frame_of slots a). x)
    (cases_lt (frame_of slots a) f)

-- the place of a word of a mark, and of one of a record
pub place_mark : (f r : ℕ) → 18 ≤ r → place_in f r ≡ 32 * f + (24 + (r - 18))
unfolding place_in
place_mark f r ge = ap (λ (b : Bool). 32 * f + (if b then 24 + (r - 18) else r)) (le-leb 18 r ge)

pub place_record : (f r : ℕ) → r < 18 → place_in f r ≡ 32 * f + r
unfolding place_in
place_record f r lt = ap (λ (b : Bool). 32 * f + (if b then 24 + (r - 18) else r)) (lt-leb 18 r lt)

-- no frame begins behind the last word
pub start_most : (slots f : ℕ) → frame_start slots f ≤ flash_size slots
start_most slots f = ⊎_elim
    (λ (past : 2 * slots + 2 < f). let e = start_end slots f past in omega (arith, e))
    (λ (le : f ≤ 2 * slots + 2).
    let e = start_end slots (2 * slots + 3) (omega arith) in
    let up = starts_rise slots f (2 * slots + 3) (omega (arith, le)) in omega (arith, e, up))
    (cases_lt (2 * slots + 2) f)
