-- Laws of slots: what stands in each of them when bytes are put into one.
use Rattle.std.proofs.Common.{sym, ◌∙◌, ap, arith, inl, inr, ⊎_elim, get_or-take, get_or-drop}
use Rattle.std.proofs.lemmas.List.{length-drop, length-take-le}
use Rattle.std.proofs.lemmas.Bool.{cases_lt}
use Rattle.std.proofs.lemmas.Grind.{same_number_lists}
use Rattle.std.proofs.Math.Nat.{mul-le-mul_left, mod-eq-sub-mod}
use Rattle.std.proofs.lemmas.Nat.{mod-mul-add}
use Rattle.std.specs.Prelude.{◌≡◌, ◌≢◌, ◌⊎◌, ◌<◌, ◌≤◌, ◌+◌, ◌-◌, ◌*◌, ◌%◌, ℕ, List, length, slice_index, take, drop}
use Rattle.card_model.specs.FileTrees.{overwrite}
use Rattle.block_chain.specs.laws.Overwriting.{index-overwrite, length-overwrite, byte_over-inside, byte_over-outside}
use Rattle.ef_contents.specs.Records.{slot_record}

-- a slot is so many bytes behind those before it
pub slot-take : (size : ℕ) (bytes : List ℕ) (i : ℕ) → slot_record size bytes i ≡ take size (drop (i * size) bytes)
slot-take size bytes i =
    let count : i * size + size - i * size ≡ size = omega arith in
    ap (λ (n : ℕ). take n (drop (i * size) bytes)) count

-- slots up to one within these bytes are within them
pub slot-within : (size i n : ℕ) → i < n → i * size + size ≤ n * size
slot-within size i n lt =
    let more : size * (i + 1) ≤ size * n = mul-le-mul_left size (omega arith) in omega (arith, more)

pub length-slot : (size : ℕ) (bytes : List ℕ) (i : ℕ) → i * size + size ≤ length bytes
    → length (slot_record size bytes i) ≡
    size
length-slot size bytes i within =
    let rest = length-drop (i * size) bytes in
    let enough : size ≤ length (drop (i * size) bytes) = omega (arith, rest, within) in
    ap (λ (l : List ℕ). length l) (slot-take size bytes i) ∙ length-take-le size (drop (i * size) bytes) enough

pub index-slot : (size : ℕ) (bytes : List ℕ) (i k : ℕ) → k < size
    → slice_index (slot_record size bytes i) k ≡ slice_index bytes (i * size + k)
index-slot size bytes i k lt =
    ap (λ (l : List ℕ). slice_index l k) (slot-take size bytes i)
    ∙ get_or-take size (drop (i * size) bytes) k 0 lt ∙ get_or-drop (i * size) bytes k 0

-- A record is put into a slot: it stands in that slot, and the others stay.
module _ (size : ℕ) (bytes : List ℕ) (i : ℕ) (new : List ℕ) (long : length new ≡ size)
    (within : i * size + size ≤ length bytes) where
  fits : i * size + length new ≤ length bytes
  fits = omega (arith, long, within)

  pub length-put : length (overwrite bytes (i * size) new) ≡ length bytes
  length-put = length-overwrite bytes new (i * size) fits

  pub slot-put_same : slot_record size (overwrite bytes (i * size) new) i ≡ new
  slot-put_same =
      let inside : i * size + size ≤ length (overwrite bytes (i * size) new) = omega (arith, length-put, within) in
      let whole = length-slot size (overwrite bytes (i * size) new) i inside in
      same_number_lists _ _ (whole ∙ sym long) (λ k lt.
      let small : k < size = omega (arith, lt, whole) in
      let place : i * size + k - i * size ≡ k = omega arith in
      let low : i * size ≤ i * size + k = omega arith in
      let high : i * size + k < i * size + length new = omega (arith, small, long) in
      index-slot size (overwrite bytes (i * size) new) i k small
      ∙ index-overwrite bytes new (i * size) fits (i * size + k)
      ∙ byte_over-inside (i * size) (i * size + k) (slice_index bytes (i * size + k)) new low high
      ∙ ap (slice_index new) place)

  pub slot-put_other : (j : ℕ) → j ≢ i → j * size + size ≤ length bytes
      → slot_record size (overwrite bytes (i * size) new) j ≡ slot_record size bytes j
  slot-put_other j other inside =
      let inside_new : j * size + size ≤ length (overwrite bytes (i * size) new) = omega (arith, length-put, inside) in
      let whole = length-slot size bytes j inside in
      let whole_new = length-slot size (overwrite bytes (i * size) new) j inside_new in
      same_number_lists _ _ (whole_new ∙ sym whole) (λ k lt.
      let small : k < size = omega (arith, lt, whole_new) in
      let apart : (j * size + k < i * size) ⊎ (i * size + length new ≤ j * size + k) = ⊎_elim
      (λ (before : j < i). inl (let w = slot-within size j i before in omega (arith, w, small)))
      (λ (from : i ≤ j). inr (let after : i < j = omega (arith, from, other) in
      let w = slot-within size i j after in omega (arith, w, long)))
      (cases_lt j i) in
      index-slot size (overwrite bytes (i * size) new) j k small
      ∙ index-overwrite bytes new (i * size) fits (j * size + k)
      ∙ byte_over-outside (i * size) (j * size + k) (slice_index bytes (j * size + k)) new apart
      ∙ sym (index-slot size bytes j k small))

-- a slot's number that is in range stays, and one that is past the last slot goes on at the first
pub slot-here : (a capacity : ℕ) → a < capacity → a % capacity ≡ a
slot-here a capacity lt = let none : 0 * capacity + a ≡ a = omega arith in
    ap (λ (n : ℕ). n % capacity) (sym none) ∙ mod-mul-add 0 capacity a lt

pub slot-around : (a capacity : ℕ) → capacity ≤ a → a < capacity + capacity → a % capacity ≡ a - capacity
slot-around a capacity from lt = mod-eq-sub-mod from ∙ slot-here (a - capacity) capacity (omega arith)
