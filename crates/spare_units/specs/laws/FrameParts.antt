-- Laws of the frames of a log in sectors, each of which may lie in a spare one.
use Rattle.std.specs.Prelude.{◌≡◌, ◌<◌, ◌≤◌, ◌+◌, ◌-◌, ◌*◌, ◌/◌, ◌%◌, ℕ, suc, Bool}
use Rattle.std.specs.Prelude.{nat_le, nat_lt, if◌then◌else◌}
use Rattle.std.proofs.Common.{sym, ◌∙◌, ap, subst, ⊎_elim, arith}
use Rattle.std.proofs.Math.Nat.{lt-mul-div-succ, mul-div-le, mul-le-mul_left, mul-suc}
use Rattle.std.proofs.lemmas.Bool.{cases_lt, le-leb, le-ltb, lt-leb, lt-ltb}
use Rattle.spare_units.specs.MovedSectors.{IsLayout}
use Rattle.spare_units.specs.SpareFrames.{TakesFrames, frame_part, frame_sector, sector_frame, word_sector}
use Rattle.spare_units.specs.SpareFrames.{word_start}
use Rattle.program_units.specs.UnitFrames.{device_size, frame_count}

-- Where a frame of an area lies.
record IsPart (sectors each r p : ℕ) : Type 0 where
  pub below : p < sectors
  pub low : each * p ≤ r
  pub high : p + 1 < sectors → r < each * (p + 1)

module _ (slots sectors each spares : ℕ) (takes : TakesFrames slots sectors each spares) where
  part_of : (r : ℕ) → IsPart sectors each r (frame_part sectors each r)
  part_of r = ⊎_elim
      (λ (lt : r / each < sectors - 1).
      subst (λ (b : Bool). IsPart sectors each r (if b then r / each else sectors - 1))
      (sym (lt-ltb (r / each) (sectors - 1) lt))
      (record { below = omega (arith, lt); low = low; high = λ _. high }))
      (λ (ge : sectors - 1 ≤ r / each).
      subst (λ (b : Bool). IsPart sectors each r (if b then r / each else sectors - 1))
      (sym (le-ltb (r / each) (sectors - 1) ge))
      (record {
        below = let some = takes.some in omega (arith, some);
        low = let less = mul-le-mul_left each ge in omega (arith, less, low);
        high = λ more. absurd (omega (arith, more));
      }))
      (cases_lt (r / each) (sectors - 1))
    where
      low : each * (r / each) ≤ r
      low = let x = mul-div-le r each in omega (arith, x)

      high : r < each * (r / each + 1)
      high = let x = lt-mul-div-succ r takes.frame in omega (arith, x)

  -- the sector of a frame, by the block
  pub sector_a : (a : ℕ) → a < slots + 1 → frame_sector slots sectors each a ≡ frame_part sectors each a
  unfolding frame_sector
  sector_a a lt =
      let first : a < 2 * slots + 2 = omega (arith, lt) in
      ap (λ (b : Bool). if b then 2 * sectors else if nat_le (slots + 1) a
      then sectors + frame_part sectors each (a - (slots + 1)) else frame_part sectors each a)
      (lt-leb (2 * slots + 2) a first)
      ∙ ap (λ (b : Bool). if b then sectors + frame_part sectors each (a - (slots + 1)) else frame_part sectors each a)
      (lt-leb (slots + 1) a lt)

  pub sector_b : (a : ℕ) → slots + 1 ≤ a → a < 2 * slots + 2
      → frame_sector slots sectors each a ≡ sectors + frame_part sectors each (a - (slots + 1))
  unfolding frame_sector
  sector_b a ge lt =
      ap (λ (b : Bool). if b then 2 * sectors else if nat_le (slots + 1) a
      then sectors + frame_part sectors each (a - (slots + 1)) else frame_part sectors each a)
      (lt-leb (2 * slots + 2) a lt)
      ∙ ap (λ (b : Bool). if b then sectors + frame_part sectors each (a - (slots + 1)) else frame_part sectors each a)
      (le-leb (slots + 1) a ge)

  pub sector_w : (a : ℕ) → 2 * slots + 2 ≤ a → frame_sector slots sectors each a ≡ 2 * sectors
  unfolding frame_sector
  sector_w a ge =
      ap (λ (b : Bool). if b then 2 * sectors else if nat_le (slots + 1) a
      then sectors + frame_part sectors each (a - (slots + 1)) else frame_part sectors each a)
      (le-leb (2 * slots + 2) a ge)

  -- the first frame of a sector, by the block
  pub start_a : (s : ℕ) → s < sectors → sector_frame slots sectors each s ≡ each * s
  unfolding sector_frame
  start_a s lt = ap (λ (b : Bool). if b then each * s else if nat_lt s (2 * sectors)
      then slots + 1 + each * (s - sectors) else if nat_le s (2 * sectors) then 2 * slots + 2
      else frame_count slots) (lt-ltb s sectors lt)

  pub start_b : (p : ℕ) → p < sectors → sector_frame slots sectors each (sectors + p) ≡ slots + 1 + each * p
  unfolding sector_frame
  start_b p lt =
      let s = sectors + p in
      let from : sectors ≤ s = omega arith in
      let below : s < 2 * sectors = omega (arith, lt) in
      let back : s - sectors ≡ p = omega arith in
      ap (λ (b : Bool). if b then each * s else if nat_lt s (2 * sectors)
      then slots + 1 + each * (s - sectors) else if nat_le s (2 * sectors) then 2 * slots + 2
      else frame_count slots) (le-ltb s sectors from)
      ∙ ap (λ (b : Bool). if b then slots + 1 + each * (s - sectors)
      else if nat_le s (2 * sectors) then 2 * slots + 2 else frame_count slots) (lt-ltb s (2 * sectors) below)
      ∙ ap (λ (j : ℕ). slots + 1 + each * j) back

  pub start_w : sector_frame slots sectors each (2 * sectors) ≡ 2 * slots + 2
  unfolding sector_frame
  start_w =
      let s = 2 * sectors in
      let from : sectors ≤ s = omega arith in
      let here : s ≤ s = omega arith in
      ap (λ (b : Bool). if b then each * s else if nat_lt s (2 * sectors)
      then slots + 1 + each * (s - sectors) else if nat_le s (2 * sectors) then 2 * slots + 2
      else frame_count slots) (le-ltb s sectors from)
      ∙ ap (λ (b : Bool). if b then slots + 1 + each * (s - sectors)
      else if nat_le s (2 * sectors) then 2 * slots + 2 else frame_count slots) (le-ltb s (2 * sectors) here)
      ∙ ap (λ (b : Bool). if b then 2 * slots + 2 else frame_count slots) (le-leb s (2 * sectors) here)

  pub start_end : (s : ℕ) → 2 * sectors < s → sector_frame slots sectors each s ≡ frame_count slots
  unfolding sector_frame
  start_end s past =
      let from : sectors ≤ s = omega (arith, past) in
      let here : 2 * sectors ≤ s = omega (arith, past) in
      ap (λ (b : Bool). if b then each * s else if nat_lt s (2 * sectors)
      then slots + 1 + each * (s - sectors) else if nat_le s (2 * sectors) then 2 * slots + 2
      else frame_count slots) (le-ltb s sectors from)
      ∙ ap (λ (b : Bool). if b then slots + 1 + each * (s - sectors)
      else if nat_le s (2 * sectors) then 2 * slots + 2 else frame_count slots) (le-ltb s (2 * sectors) here)
      ∙ ap (λ (b : Bool). if b then 2 * slots + 2 else frame_count slots) (lt-leb s (2 * sectors) past)

  pub start_last : sector_frame slots sectors each (2 * sectors + 1) ≡ frame_count slots
  start_last = start_end (2 * sectors + 1) (omega arith)

  pub start_first : sector_frame slots sectors each 0 ≡ 0
  start_first = let none : each * 0 ≡ 0 = omega arith in start_a 0 takes.some ∙ none

  pub start_second : sector_frame slots sectors each sectors ≡ slots + 1
  start_second =
      let here : sectors ≡ sectors + 0 = omega arith in
      let none : (slots + 1) + each * 0 ≡ slots + 1 = omega arith in
      ap (sector_frame slots sectors each) here ∙ start_b 0 takes.some ∙ none

  -- the part of a frame begins at it or before
  pub part_low : (r : ℕ) → each * frame_part sectors each r ≤ r
  part_low r = (part_of r).low

  -- each sector of an area but the last has its frames, and the last one the rest
  part_size : (p : ℕ) → p + 1 < sectors → each * (p + 1) ≤ each * p + each
  part_size p lt = let more = mul-suc each p in let one : p + 1 ≡ suc p = omega arith in
      let e : each * (p + 1) ≡ each * suc p = ap (λ (j : ℕ). each * j) one in
      omega (arith, more, e)

  part_rise : (p : ℕ) → each * p ≤ each * (p + 1)
  part_rise p = mul-le-mul_left each (omega arith)

  last_low : (p : ℕ) → p + 1 ≡ sectors → each * p ≤ slots + 1
  last_low p is = let one : p ≡ sectors - 1 = omega (arith, is) in
      let e : each * p ≡ each * (sectors - 1) = ap (λ (j : ℕ). each * j) one in
      let last = takes.last in omega (arith, e, last)

  last_size : (p : ℕ) → p + 1 ≡ sectors → slots + 1 ≤ each * p + each
  last_size p is = let one : p ≡ sectors - 1 = omega (arith, is) in
      let e : each * p ≡ each * (sectors - 1) = ap (λ (j : ℕ). each * j) one in
      let rest = takes.rest in omega (arith, e, rest)

  -- The sector behind one begins no earlier, and no more than the frames of a sector later.
  record IsNext (low high : ℕ) : Type 0 where
    pub rise : low ≤ high
    pub small : high ≤ low + each

  next_a : (s : ℕ) → s < sectors → IsNext (sector_frame slots sectors each s) (sector_frame slots sectors each (s + 1))
  next_a s lt = ⊎_elim
      (λ (more : s + 1 < sectors).
      let next = start_a (s + 1) more in let x = part_rise s in let y = part_size s more in
      record { rise = omega (arith, here, next, x); small = omega (arith, here, next, y) })
      (λ (end : sectors ≤ s + 1).
      let is : s + 1 ≡ sectors = omega (arith, end, lt) in
      let next = ap (sector_frame slots sectors each) is ∙ start_second in
      let x = last_low s is in let y = last_size s is in
      record { rise = omega (arith, here, next, x); small = omega (arith, here, next, y) })
      (cases_lt (s + 1) sectors)
    where
      here : sector_frame slots sectors each s ≡ each * s
      here = start_a s lt

  next_b : (p : ℕ) → p < sectors
      → IsNext (sector_frame slots sectors each (sectors + p)) (sector_frame slots sectors each (sectors + p + 1))
  next_b p lt = ⊎_elim
      (λ (more : p + 1 < sectors).
      let one : sectors + p + 1 ≡ sectors + (p + 1) = omega arith in
      let next = ap (sector_frame slots sectors each) one ∙ start_b (p + 1) more in
      let x = part_rise p in let y = part_size p more in
      record { rise = omega (arith, here, next, x); small = omega (arith, here, next, y) })
      (λ (end : sectors ≤ p + 1).
      let is : p + 1 ≡ sectors = omega (arith, end, lt) in
      let one : sectors + p + 1 ≡ 2 * sectors = omega (arith, is) in
      let next = ap (sector_frame slots sectors each) one ∙ start_w in
      let x = last_low p is in let y = last_size p is in
      record { rise = omega (arith, here, next, x); small = omega (arith, here, next, y) })
      (cases_lt (p + 1) sectors)
    where
      here : sector_frame slots sectors each (sectors + p) ≡ slots + 1 + each * p
      here = start_b p lt

  next_any : (s : ℕ) → IsNext (sector_frame slots sectors each s) (sector_frame slots sectors each (s + 1))
  next_any s = ⊎_elim
      (λ (a : s < sectors). next_a s a)
      (λ (ge : sectors ≤ s). ⊎_elim
      (λ (b : s < 2 * sectors).
      let is : sectors + (s - sectors) ≡ s = omega (arith, ge) in
      subst (λ (t : ℕ). IsNext (sector_frame slots sectors each t) (sector_frame slots sectors each (t + 1))) is
      (next_b (s - sectors) (omega (arith, b, ge))))
      (λ (past : 2 * sectors ≤ s). ⊎_elim
      (λ (w : s < 2 * sectors + 1).
      let is : s ≡ 2 * sectors = omega (arith, w, past) in
      let here = ap (sector_frame slots sectors each) is ∙ start_w in
      let next = start_end (s + 1) (omega (arith, past)) in
      let some = takes.frame in
      record { rise = omega (arith, here, next); small = omega (arith, here, next, some) })
      (λ (end : 2 * sectors + 1 ≤ s).
      let here = start_end s (omega (arith, end)) in let next = start_end (s + 1) (omega (arith, end)) in
      record { rise = omega (arith, here, next); small = omega (arith, here, next) })
      (cases_lt s (2 * sectors + 1)))
      (cases_lt s (2 * sectors)))
      (cases_lt s sectors)

  pub parts_rise : (s : ℕ) → sector_frame slots sectors each s ≤ sector_frame slots sectors each (s + 1)
  parts_rise s = (next_any s).rise

  pub parts_small : (s : ℕ) → sector_frame slots sectors each (s + 1) ≤ sector_frame slots sectors each s + each
  parts_small s = (next_any s).small

  -- A frame lies in its sector.
  pub record IsIn (a s : ℕ) : Type 0 where
    pub most : s ≤ 2 * sectors
    pub low : sector_frame slots sectors each s ≤ a
    pub high : a < sector_frame slots sectors each (s + 1)

  in_a : (a : ℕ) → a < slots + 1 → IsIn a (frame_part sectors each a)
  in_a a lt =
      let p = frame_part sectors each a in
      let part = part_of a in
      let here = start_a p part.below in
      let below = part.below in let low = part.low in record {
        most = omega (arith, below);
        low = omega (arith, here, low);
        high = ⊎_elim
            (λ (more : p + 1 < sectors). let next = start_a (p + 1) more in let x = part.high more in
            omega (arith, next, x))
            (λ (end : sectors ≤ p + 1). let is : p + 1 ≡ sectors = omega (arith, end, below) in
            let next = ap (sector_frame slots sectors each) is ∙ start_second in omega (arith, next, lt))
            (cases_lt (p + 1) sectors);
      }

  in_b : (a : ℕ) → slots + 1 ≤ a → a < 2 * slots + 2
      → IsIn a (sectors + frame_part sectors each (a - (slots + 1)))
  in_b a ge lt =
      let r = a - (slots + 1) in
      let p = frame_part sectors each r in
      let part = part_of r in
      let here = start_b p part.below in
      let below = part.below in let low = part.low in record {
        most = omega (arith, below);
        low = omega (arith, here, low, ge);
        high = ⊎_elim
            (λ (more : p + 1 < sectors). let one : sectors + p + 1 ≡ sectors + (p + 1) = omega arith in
            let next = ap (sector_frame slots sectors each) one ∙ start_b (p + 1) more in let x = part.high more in
            omega (arith, next, x, ge))
            (λ (end : sectors ≤ p + 1). let is : sectors + p + 1 ≡ 2 * sectors = omega (arith, end, below) in
            let next = ap (sector_frame slots sectors each) is ∙ start_w in omega (arith, next, lt))
            (cases_lt (p + 1) sectors);
      }

  pub lies_in_part : (a : ℕ) → a < frame_count slots → IsIn a (frame_sector slots sectors each a)
  lies_in_part a lt = ⊎_elim
      (λ (x : a < slots + 1). subst (λ (s : ℕ). IsIn a s) (sym (sector_a a x)) (in_a a x))
      (λ (ge : slots + 1 ≤ a). ⊎_elim
      (λ (y : a < 2 * slots + 2). subst (λ (s : ℕ). IsIn a s) (sym (sector_b a ge y)) (in_b a ge y))
      (λ (w : 2 * slots + 2 ≤ a). subst (λ (s : ℕ). IsIn a s) (sym (sector_w a w)) (record {
        most = omega arith;
        low = let e = start_w in omega (arith, e, w);
        high = let e = start_last in omega (arith, e, lt);
      }))
      (cases_lt a (2 * slots + 2)))
      (cases_lt a (slots + 1))

  -- the words lie in the sectors of their frames
  pub frames_lie : IsLayout (word_sector slots sectors each) (word_start slots sectors each) (device_size slots)
      (32 * each) sectors
  unfolding word_sector
  frames_lie = record {
    most = λ a lt. (lies_in_part (a / 32) (omega (arith, lt))).most;
    low = λ a lt. let x = (lies_in_part (a / 32) (omega (arith, lt))).low in omega (arith, x);
    high = λ a lt. let x = (lies_in_part (a / 32) (omega (arith, lt))).high in omega (arith, x);
    rise = λ s. let x = parts_rise s in omega (arith, x);
    small = λ s. let x = parts_small s in omega (arith, x);
    last = let e = start_last in omega (arith, e);
  }

  -- the blocks have sectors of their own
  pub frames_fit : (sector_frame slots sectors each 0 ≡ 0) × (sector_frame slots sectors each sectors ≡ slots + 1)
      × (sector_frame slots sectors each (2 * sectors) ≡ 2 * slots + 2)
      × (sector_frame slots sectors each (2 * sectors + 1) ≡ frame_count slots) × (0 < sectors) × (sectors < 32768)
  frames_fit = (start_first, start_second, start_w, start_last, takes.some, takes.few)

-- words of one frame lie in one sector
pub frame_run : (slots sectors each at size k : ℕ) → at % 32 + size ≤ 32 → k < size
    → word_sector slots sectors each (at + k) ≡ word_sector slots sectors each at
unfolding word_sector
frame_run slots sectors each at size k fits lt =
    let one : (at + k) / 32 ≡ at / 32 = omega (arith, fits, lt) in ap (frame_sector slots sectors each) one
