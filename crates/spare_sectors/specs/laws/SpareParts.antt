-- Laws of the sectors of a log: each word lies in one, and so does each run that is programmed.
use Rattle.std.specs.Prelude.{◌≡◌, ◌⊎◌, ◌<◌, ◌≤◌, ◌+◌, ◌-◌, ◌*◌, ◌/◌, ℕ, suc, Bool, true, false}
use Rattle.std.specs.Prelude.{nat_eq, nat_le, nat_lt, if◌then◌else◌}
use Rattle.std.proofs.Common.{sym, ◌∙◌, ap, subst, ⊎_elim, arith}
use Rattle.std.proofs.Math.Nat.{lt-mul-div-succ, mul-div-le, mul-le-mul_left, mul-suc}
use Rattle.std.proofs.lemmas.Bool.{cases_lt, le-leb, le-ltb, lt-leb, lt-ltb}
use Rattle.flash_device.specs.FlashBlocks.{area_size, flash_size, witness_start}
use Rattle.flash_device.specs.FlashLogs.{base_in, close_b, close_of, slot_of}
use Rattle.flash_device.specs.ProgrammedRuns.{IsClosePlace, IsCommitPlace, IsProgramRun, IsSlotPlace}
use Rattle.spare_sectors.specs.SparePlaces.{TakesLog, part_in, part_start, sector_of}

-- Where a word of an area lies.
record IsPart (sectors each r p : ℕ) : Type 0 where
  pub below : p < sectors
  pub low : 20 * (each * p) ≤ r
  pub high : p + 1 < sectors → r < 20 * (each * (p + 1))

module _ (slots sectors each size spares : ℕ) (takes : TakesLog slots sectors each size spares) where
  part_of : (r : ℕ) → IsPart sectors each r (part_in sectors each r)
  part_of r = ⊎_elim
      (λ (lt : r / 20 / each < sectors - 1).
      subst (λ (b : Bool). IsPart sectors each r (if b then r / 20 / each else sectors - 1))
      (sym (lt-ltb (r / 20 / each) (sectors - 1) lt))
      (record { below = omega (arith, lt); low = low; high = λ _. high }))
      (λ (ge : sectors - 1 ≤ r / 20 / each).
      subst (λ (b : Bool). IsPart sectors each r (if b then r / 20 / each else sectors - 1))
      (sym (le-ltb (r / 20 / each) (sectors - 1) ge))
      (record {
        below = let some = takes.some in omega (arith, some);
        low = let less = mul-le-mul_left each ge in omega (arith, less, low);
        high = λ more. absurd (omega (arith, more));
      }))
      (cases_lt (r / 20 / each) (sectors - 1))
    where
      low : 20 * (each * (r / 20 / each)) ≤ r
      low = let x = mul-div-le (r / 20) each in omega (arith, x)

      high : r < 20 * (each * (r / 20 / each + 1))
      high = let x = lt-mul-div-succ (r / 20) takes.slot in omega (arith, x)

  -- the sector of a word, by the block
  pub sector_a : (a : ℕ) → a < area_size slots → sector_of slots sectors each a ≡ part_in sectors each a
  unfolding sector_of
  sector_a a lt =
      let first : a < witness_start slots = omega (arith, lt) in
      ap (λ (b : Bool). if b then 2 * sectors else if nat_le (area_size slots) a
      then sectors + part_in sectors each (a - area_size slots) else part_in sectors each a)
      (lt-leb (witness_start slots) a first)
      ∙ ap (λ (b : Bool). if b then sectors + part_in sectors each (a - area_size slots) else part_in sectors each a)
      (lt-leb (area_size slots) a lt)

  pub sector_b : (a : ℕ) → area_size slots ≤ a → a < witness_start slots
      → sector_of slots sectors each a ≡ sectors + part_in sectors each (a - area_size slots)
  unfolding sector_of
  sector_b a ge lt =
      ap (λ (b : Bool). if b then 2 * sectors else if nat_le (area_size slots) a
      then sectors + part_in sectors each (a - area_size slots) else part_in sectors each a)
      (lt-leb (witness_start slots) a lt)
      ∙ ap (λ (b : Bool). if b then sectors + part_in sectors each (a - area_size slots) else part_in sectors each a)
      (le-leb (area_size slots) a ge)

  pub sector_w : (a : ℕ) → witness_start slots ≤ a → sector_of slots sectors each a ≡ 2 * sectors
  unfolding sector_of
  sector_w a ge =
      ap (λ (b : Bool). if b then 2 * sectors else if nat_le (area_size slots) a
      then sectors + part_in sectors each (a - area_size slots) else part_in sectors each a)
      (le-leb (witness_start slots) a ge)

  -- the first address of a sector, by the block
  pub start_a : (s : ℕ) → s < sectors → part_start slots sectors each s ≡ 20 * (each * s)
  unfolding part_start
  start_a s lt = ap (λ (b : Bool). if b then 20 * (each * s) else if nat_lt s (2 * sectors)
      then area_size slots + 20 * (each * (s - sectors)) else if nat_le s (2 * sectors) then witness_start slots
      else flash_size slots) (lt-ltb s sectors lt)

  pub start_b : (p : ℕ) → p < sectors → part_start slots sectors each (sectors + p) ≡ area_size slots + 20 * (each * p)
  unfolding part_start
  start_b p lt =
      let s = sectors + p in
      let from : sectors ≤ s = omega arith in
      let below : s < 2 * sectors = omega (arith, lt) in
      let back : s - sectors ≡ p = omega arith in
      ap (λ (b : Bool). if b then 20 * (each * s) else if nat_lt s (2 * sectors)
      then area_size slots + 20 * (each * (s - sectors)) else if nat_le s (2 * sectors) then witness_start slots
      else flash_size slots) (le-ltb s sectors from)
      ∙ ap (λ (b : Bool). if b then area_size slots + 20 * (each * (s - sectors))
      else if nat_le s (2 * sectors) then witness_start slots else flash_size slots) (lt-ltb s (2 * sectors) below)
      ∙ ap (λ (j : ℕ). area_size slots + 20 * (each * j)) back

  pub start_w : part_start slots sectors each (2 * sectors) ≡ witness_start slots
  unfolding part_start
  start_w =
      let s = 2 * sectors in
      let from : sectors ≤ s = omega arith in
      let here : s ≤ s = omega arith in
      ap (λ (b : Bool). if b then 20 * (each * s) else if nat_lt s (2 * sectors)
      then area_size slots + 20 * (each * (s - sectors)) else if nat_le s (2 * sectors) then witness_start slots
      else flash_size slots) (le-ltb s sectors from)
      ∙ ap (λ (b : Bool). if b then area_size slots + 20 * (each * (s - sectors))
      else if nat_le s (2 * sectors) then witness_start slots else flash_size slots) (le-ltb s (2 * sectors) here)
      ∙ ap (λ (b : Bool). if b then witness_start slots else flash_size slots) (le-leb s (2 * sectors) here)

  pub start_end : (s : ℕ) → 2 * sectors < s → part_start slots sectors each s ≡ flash_size slots
  unfolding part_start
  start_end s past =
      let from : sectors ≤ s = omega (arith, past) in
      let here : 2 * sectors ≤ s = omega (arith, past) in
      ap (λ (b : Bool). if b then 20 * (each * s) else if nat_lt s (2 * sectors)
      then area_size slots + 20 * (each * (s - sectors)) else if nat_le s (2 * sectors) then witness_start slots
      else flash_size slots) (le-ltb s sectors from)
      ∙ ap (λ (b : Bool). if b then area_size slots + 20 * (each * (s - sectors))
      else if nat_le s (2 * sectors) then witness_start slots else flash_size slots) (le-ltb s (2 * sectors) here)
      ∙ ap (λ (b : Bool). if b then witness_start slots else flash_size slots) (lt-leb s (2 * sectors) past)

  pub start_last : part_start slots sectors each (2 * sectors + 1) ≡ flash_size slots
  start_last = start_end (2 * sectors + 1) (omega arith)

  pub start_first : part_start slots sectors each 0 ≡ 0
  start_first = let none : 20 * (each * 0) ≡ 0 = omega arith in start_a 0 takes.some ∙ none

  pub start_second : part_start slots sectors each sectors ≡ area_size slots
  start_second =
      let here : sectors ≡ sectors + 0 = omega arith in
      let none : area_size slots + 20 * (each * 0) ≡ area_size slots = omega arith in
      ap (part_start slots sectors each) here ∙ start_b 0 takes.some ∙ none

  -- the number of words before a word in its sector, by the block
  pub offset_a : (a : ℕ) → a < area_size slots
      → a - part_start slots sectors each (sector_of slots sectors each a) ≡ a - 20 * (each * part_in sectors each a)
  offset_a a lt = ap (λ (n : ℕ). a - n) (ap (part_start slots sectors each) (sector_a a lt)
      ∙ start_a (part_in sectors each a) (part_of a).below)

  pub offset_b : (a : ℕ) → area_size slots ≤ a → a < witness_start slots
      → a - part_start slots sectors each (sector_of slots sectors each a)
      ≡ a - area_size slots - 20 * (each * part_in sectors each (a - area_size slots))
  offset_b a ge lt =
      let e = ap (part_start slots sectors each) (sector_b a ge lt)
      ∙ start_b (part_in sectors each (a - area_size slots)) (part_of (a - area_size slots)).below in
      omega (arith, e)

  pub offset_w : (a : ℕ) → witness_start slots ≤ a
      → a - part_start slots sectors each (sector_of slots sectors each a) ≡ a - witness_start slots
  offset_w a ge = ap (λ (n : ℕ). a - n) (ap (part_start slots sectors each) (sector_w a ge) ∙ start_w)

  -- the part of a word begins at it or before
  pub part_low : (r : ℕ) → 20 * (each * part_in sectors each r) ≤ r
  part_low r = (part_of r).low

  -- each sector of an area but the last has its slots, and the last one the rest
  part_size : (p : ℕ) → p + 1 < sectors → 20 * (each * (p + 1)) ≤ 20 * (each * p) + size
  part_size p lt = let more = mul-suc each p in let one : p + 1 ≡ suc p = omega arith in
      let e : each * (p + 1) ≡ each * suc p = ap (λ (j : ℕ). each * j) one in
      let whole = takes.whole in omega (arith, more, e, whole)

  part_rise : (p : ℕ) → each * p ≤ each * (p + 1)
  part_rise p = mul-le-mul_left each (omega arith)

  last_low : (p : ℕ) → p + 1 ≡ sectors → 20 * (each * p) ≤ area_size slots
  last_low p is = let one : p ≡ sectors - 1 = omega (arith, is) in
      let e : each * p ≡ each * (sectors - 1) = ap (λ (j : ℕ). each * j) one in
      let last = takes.last in omega (arith, e, last)

  last_size : (p : ℕ) → p + 1 ≡ sectors → area_size slots ≤ 20 * (each * p) + size
  last_size p is = let one : p ≡ sectors - 1 = omega (arith, is) in
      let e : each * p ≡ each * (sectors - 1) = ap (λ (j : ℕ). each * j) one in
      let rest = takes.rest in omega (arith, e, rest)

  -- The sector behind one begins no earlier, and no more than the words of a sector later.
  record IsNext (low high : ℕ) : Type 0 where
    pub rise : low ≤ high
    pub small : high ≤ low + size

  next_a : (s : ℕ) → s < sectors → IsNext (part_start slots sectors each s) (part_start slots sectors each (s + 1))
  next_a s lt = ⊎_elim
      (λ (more : s + 1 < sectors).
      let next = start_a (s + 1) more in let x = part_rise s in let y = part_size s more in
      record { rise = omega (arith, here, next, x); small = omega (arith, here, next, y) })
      (λ (end : sectors ≤ s + 1).
      let is : s + 1 ≡ sectors = omega (arith, end, lt) in
      let next = ap (part_start slots sectors each) is ∙ start_second in
      let x = last_low s is in let y = last_size s is in
      record { rise = omega (arith, here, next, x); small = omega (arith, here, next, y) })
      (cases_lt (s + 1) sectors)
    where
      here : part_start slots sectors each s ≡ 20 * (each * s)
      here = start_a s lt

  next_b : (p : ℕ) → p < sectors
      → IsNext (part_start slots sectors each (sectors + p)) (part_start slots sectors each (sectors + p + 1))
  next_b p lt = ⊎_elim
      (λ (more : p + 1 < sectors).
      let one : sectors + p + 1 ≡ sectors + (p + 1) = omega arith in
      let next = ap (part_start slots sectors each) one ∙ start_b (p + 1) more in
      let x = part_rise p in let y = part_size p more in
      record { rise = omega (arith, here, next, x); small = omega (arith, here, next, y) })
      (λ (end : sectors ≤ p + 1).
      let is : p + 1 ≡ sectors = omega (arith, end, lt) in
      let one : sectors + p + 1 ≡ 2 * sectors = omega (arith, is) in
      let next = ap (part_start slots sectors each) one ∙ start_w in
      let x = last_low p is in let y = last_size p is in
      record { rise = omega (arith, here, next, x); small = omega (arith, here, next, y) })
      (cases_lt (p + 1) sectors)
    where
      here : part_start slots sectors each (sectors + p) ≡ area_size slots + 20 * (each * p)
      here = start_b p lt

  next_any : (s : ℕ) → IsNext (part_start slots sectors each s) (part_start slots sectors each (s + 1))
  next_any s = ⊎_elim
      (λ (a : s < sectors). next_a s a)
      (λ (ge : sectors ≤ s). ⊎_elim
      (λ (b : s < 2 * sectors).
      let is : sectors + (s - sectors) ≡ s = omega (arith, ge) in
      subst (λ (t : ℕ). IsNext (part_start slots sectors each t) (part_start slots sectors each (t + 1))) is
      (next_b (s - sectors) (omega (arith, b, ge))))
      (λ (past : 2 * sectors ≤ s). ⊎_elim
      (λ (w : s < 2 * sectors + 1).
      let is : s ≡ 2 * sectors = omega (arith, w, past) in
      let here = ap (part_start slots sectors each) is ∙ start_w in
      let next = start_end (s + 1) (omega (arith, past)) in
      let whole = takes.whole in let slot = takes.slot in
      record { rise = omega (arith, here, next); small = omega (arith, here, next, whole, slot) })
      (λ (end : 2 * sectors + 1 ≤ s).
      let here = start_end s (omega (arith, end)) in let next = start_end (s + 1) (omega (arith, end)) in
      record { rise = omega (arith, here, next); small = omega (arith, here, next) })
      (cases_lt s (2 * sectors + 1)))
      (cases_lt s (2 * sectors)))
      (cases_lt s sectors)

  pub parts_rise : (s : ℕ) → part_start slots sectors each s ≤ part_start slots sectors each (s + 1)
  parts_rise s = (next_any s).rise

  pub parts_small : (s : ℕ) → part_start slots sectors each (s + 1) ≤ part_start slots sectors each s + size
  parts_small s = (next_any s).small

  -- A word lies in its sector.
  pub record IsIn (a s : ℕ) : Type 0 where
    pub most : s ≤ 2 * sectors
    pub low : part_start slots sectors each s ≤ a
    pub high : a < part_start slots sectors each (s + 1)

  in_a : (a : ℕ) → a < area_size slots → IsIn a (part_in sectors each a)
  in_a a lt =
      let p = part_in sectors each a in
      let part = part_of a in
      let here = start_a p part.below in
      let below = part.below in let low = part.low in record {
        most = omega (arith, below);
        low = omega (arith, here, low);
        high = ⊎_elim
            (λ (more : p + 1 < sectors). let next = start_a (p + 1) more in let x = part.high more in
            omega (arith, next, x))
            (λ (end : sectors ≤ p + 1). let is : p + 1 ≡ sectors = omega (arith, end, below) in
            let next = ap (part_start slots sectors each) is ∙ start_second in omega (arith, next, lt))
            (cases_lt (p + 1) sectors);
      }

  in_b : (a : ℕ) → area_size slots ≤ a → a < witness_start slots
      → IsIn a (sectors + part_in sectors each (a - area_size slots))
  in_b a ge lt =
      let r = a - area_size slots in
      let p = part_in sectors each r in
      let part = part_of r in
      let here = start_b p part.below in
      let below = part.below in let low = part.low in record {
        most = omega (arith, below);
        low = omega (arith, here, low, ge);
        high = ⊎_elim
            (λ (more : p + 1 < sectors). let one : sectors + p + 1 ≡ sectors + (p + 1) = omega arith in
            let next = ap (part_start slots sectors each) one ∙ start_b (p + 1) more in let x = part.high more in
            omega (arith, next, x, ge))
            (λ (end : sectors ≤ p + 1). let is : sectors + p + 1 ≡ 2 * sectors = omega (arith, end, below) in
            let next = ap (part_start slots sectors each) is ∙ start_w in omega (arith, next, lt))
            (cases_lt (p + 1) sectors);
      }

  pub lies_in_part : (a : ℕ) → a < flash_size slots → IsIn a (sector_of slots sectors each a)
  lies_in_part a lt = ⊎_elim
      (λ (x : a < area_size slots). subst (λ (s : ℕ). IsIn a s) (sym (sector_a a x)) (in_a a x))
      (λ (ge : area_size slots ≤ a). ⊎_elim
      (λ (y : a < witness_start slots). subst (λ (s : ℕ). IsIn a s) (sym (sector_b a ge y)) (in_b a ge y))
      (λ (w : witness_start slots ≤ a). subst (λ (s : ℕ). IsIn a s) (sym (sector_w a w)) (record {
        most = omega arith;
        low = let e = start_w in omega (arith, e, w);
        high = let e = start_last in omega (arith, e, lt);
      }))
      (cases_lt a (witness_start slots)))
      (cases_lt a (area_size slots))

  -- words of one slot lie in one sector
  same_part : (r t : ℕ) → r / 20 ≡ t / 20 → part_in sectors each r ≡ part_in sectors each t
  same_part r t e = ap (λ (n : ℕ). if nat_lt (n / each) (sectors - 1) then n / each else sectors - 1) e

  one_a : (a b n : ℕ) → a < area_size slots → b < area_size slots → a / 20 ≡ n → b / 20 ≡ n
      → sector_of slots sectors each a ≡ sector_of slots sectors each b
  one_a a b n x y e f = sector_a a x ∙ same_part a b (e ∙ sym f) ∙ sym (sector_a b y)

  one_b : (r t n : ℕ) → r < area_size slots → t < area_size slots → r / 20 ≡ n → t / 20 ≡ n
      → sector_of slots sectors each (area_size slots + r) ≡ sector_of slots sectors each (area_size slots + t)
  one_b r t n x y e f =
      let back : area_size slots + r - area_size slots ≡ r = omega arith in
      let back_2 : area_size slots + t - area_size slots ≡ t = omega arith in
      sector_b (area_size slots + r) (omega arith) (omega (arith, x))
      ∙ ap (λ (p : ℕ). sectors + p) (ap (part_in sectors each) back ∙ same_part r t (e ∙ sym f)
      ∙ sym (ap (part_in sectors each) back_2))
      ∙ sym (sector_b (area_size slots + t) (omega arith) (omega (arith, y)))

  -- in either area
  one_slot : (area r t n : ℕ) → r < area_size slots → t < area_size slots → r / 20 ≡ n → t / 20 ≡ n
      → sector_of slots sectors each (base_in slots area + r) ≡ sector_of slots sectors each (base_in slots area + t)
  one_slot area r t n x y e f = by_test (nat_eq area 0)
    where
      by_test : (b : Bool) → sector_of slots sectors each ((if b then 0 else area_size slots) + r)
          ≡ sector_of slots sectors each ((if b then 0 else area_size slots) + t)
      by_test true =
          let left : 0 + r ≡ r = omega arith in
          let right : 0 + t ≡ t = omega arith in
          ap (sector_of slots sectors each) left ∙ one_a r t n x y e f ∙ sym (ap (sector_of slots sectors each) right)
      by_test false = one_b r t n x y e f

  slot_run : (area slot from k : ℕ) → slot < slots → from + k < 20
      → sector_of slots sectors each (slot_of (base_in slots area) slot + from + k)
      ≡ sector_of slots sectors each (slot_of (base_in slots area) slot + from)
  slot_run area slot from k below few =
      let base = base_in slots area in
      let left : slot_of base slot + from + k ≡ base + (20 * slot + from + k) = omega arith in
      let right : base + (20 * slot + from) ≡ slot_of base slot + from = omega arith in
      ap (sector_of slots sectors each) left
      ∙ one_slot area (20 * slot + from + k) (20 * slot + from) slot (omega (arith, below, few))
      (omega (arith, below, few)) (omega (arith, few)) (omega (arith, few))
      ∙ ap (sector_of slots sectors each) right

  close_run : (block k : ℕ) → k < 2 → sector_of slots sectors each (close_of slots block + k)
      ≡ sector_of slots sectors each (close_of slots block)
  close_run block k few = by_test (nat_eq block 0) (nat_eq block 1)
    where
      by_test : (b c : Bool)
          → sector_of slots sectors each ((if b then 20 * slots else if c then close_b slots else witness_start
          slots) + k)
          ≡ sector_of slots sectors each (if b then 20 * slots else if c then close_b slots else witness_start slots)
      by_test true c = one_a (20 * slots + k) (20 * slots) slots (omega (arith, few)) (omega arith)
          (omega (arith, few)) (omega arith)
      by_test false true =
          let left : close_b slots + k ≡ area_size slots + (20 * slots + k) = omega arith in
          ap (sector_of slots sectors each) left
          ∙ one_b (20 * slots + k) (20 * slots) slots (omega (arith, few)) (omega arith) (omega (arith, few)) (omega
          arith)
      by_test false false =
          sector_w (witness_start slots + k) (omega arith) ∙ sym (sector_w (witness_start slots) (omega arith))

  -- a run that is programmed lies in one sector
  pub run_part : (at size_2 k : ℕ) → IsProgramRun slots at size_2 → k < size_2
      → sector_of slots sectors each (at + k) ≡ sector_of slots sectors each at
  run_part at n k run lt = ⊎_elim
      (λ (whole : (n ≡ 18) × IsSlotPlace slots at).
      let is : at ≡ slot_of (base_in slots whole.1.area) whole.1.slot + 0 = let e = whole.1.is in omega (arith, e) in
      ap (λ (a : ℕ). sector_of slots sectors each (a + k)) is
      ∙ slot_run whole.1.area whole.1.slot 0 k whole.1.below (let e = whole.0 in omega (arith, e, lt))
      ∙ sym (ap (sector_of slots sectors each) is))
      (λ (mark : (n ≡ 2) × (IsCommitPlace slots at ⊎ IsClosePlace slots at)).
      let few : k < 2 = let e = mark.0 in omega (arith, e, lt) in ⊎_elim
      (λ (commit : IsCommitPlace slots at).
      ap (λ (a : ℕ). sector_of slots sectors each (a + k)) commit.is
      ∙ slot_run commit.area commit.slot 18 k commit.below (omega (arith, few))
      ∙ sym (ap (sector_of slots sectors each) commit.is))
      (λ (close : IsClosePlace slots at).
      ap (λ (a : ℕ). sector_of slots sectors each (a + k)) close.is ∙ close_run close.block k few
      ∙ sym (ap (sector_of slots sectors each) close.is))
      mark.1)
      run.is

  -- it is not empty
  pub run_some : (at n : ℕ) → IsProgramRun slots at n → 0 < n
  run_some at n run = ⊎_elim
      (λ (whole : (n ≡ 18) × IsSlotPlace slots at). let e = whole.0 in omega (arith, e))
      (λ (mark : (n ≡ 2) × (IsCommitPlace slots at ⊎ IsClosePlace slots at)). let e = mark.0 in omega (arith, e))
      run.is

  -- the blocks have sectors of their own
  pub starts_fit : (part_start slots sectors each 0 ≡ 0) × (part_start slots sectors each sectors ≡ area_size slots)
      × (part_start slots sectors each (2 * sectors) ≡ witness_start slots)
      × (part_start slots sectors each (2 * sectors + 1) ≡ flash_size slots) × (0 < sectors) × (sectors < 32768)
  starts_fit = (start_first, start_second, start_w, start_last, takes.some, takes.few)
