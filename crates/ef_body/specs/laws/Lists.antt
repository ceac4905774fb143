-- Laws of the lists of records, by the slots in which they lie.
use Rattle.std.proofs.Common.{sym, ◌∙◌, ap, ap₂, arith, inl, inr, ⊎_elim}
use Rattle.std.proofs.Common.{get_or-set_same, get_or-set_other}
use Rattle.std.proofs.Math.ListN.{length-set}
use Rattle.std.proofs.lemmas.List.{same_lists, length-take-le, get_or-take}
use Rattle.std.proofs.lemmas.List.FromFn.{get_or-map-range_with_len, length-map-range_with_len}
use Rattle.std.proofs.lemmas.List.FromFn.{map-range_with_len_more}
use Rattle.std.proofs.lemmas.Bool.{cases_lt}
use Rattle.std.proofs.lemmas.Bool.Decides.{eqb_tells}
use Rattle.std.specs.Prelude.{◌≡◌, ◌≢◌, ◌⊎◌, ◌<◌, ◌≤◌, ◌+◌, ◌-◌, ◌*◌, ◌%◌, ℕ, zero, suc, List, [], ◌∷◌, ◌++◌, length}
use Rattle.std.specs.Prelude.{slice_index_or, slice_set}
use Rattle.std.proofs.Math.Nat.{mod-lt, mod-eq-sub-mod}
use Rattle.card_model.specs.FileTrees.{overwrite}
use Rattle.ef_contents.specs.Records.{slot_record, linear_order, newest_first}
use Rattle.card_model.specs.RecordLists.{front}
use Rattle.ef_contents.specs.laws.Slots.{slot-within, slot-put_same, slot-put_other, slot-here, slot-around}

-- how many records, and each of them
pub length-in_order : (size : ℕ) (bytes : List ℕ) (n : ℕ) → length (linear_order size bytes n) ≡ n
unfolding linear_order
length-in_order size bytes n = length-map-range_with_len (slot_record size bytes) 0 n

pub at-in_order : (size : ℕ) (bytes : List ℕ) (n k : ℕ) (d : List ℕ) → k < n
    → slice_index_or (linear_order size bytes n) k d ≡ slot_record size bytes k
unfolding linear_order
at-in_order size bytes n k d lt =
    let place : 0 + k ≡ k = omega arith in get_or-map-range_with_len (slot_record size bytes) 0 n k k d lt place

pub length-newest_first : (size capacity : ℕ) (bytes : List ℕ) (start n : ℕ)
    → length (newest_first size capacity bytes start n) ≡ n
unfolding newest_first
length-newest_first size capacity bytes start n =
    length-map-range_with_len (λ i. slot_record size bytes ((start + i) % capacity)) 0 n

pub at-newest_first : (size capacity : ℕ) (bytes : List ℕ) (start n k : ℕ) (d : List ℕ) → k < n
    → slice_index_or (newest_first size capacity bytes start n) k d ≡ slot_record size bytes ((start + k) % capacity)
unfolding newest_first
at-newest_first size capacity bytes start n k d lt =
    let place : 0 + k ≡ k = omega arith in
    get_or-map-range_with_len (λ i. slot_record size bytes ((start + i) % capacity)) 0 n k k d lt place

-- a linear body's slots are those of a cyclic one whose record 1 lies in slot 0
pub in_order-ring : (size capacity : ℕ) (bytes : List ℕ) (n : ℕ) → n ≤ capacity
    → newest_first size capacity bytes 0 n ≡ linear_order size bytes n
in_order-ring size capacity bytes n few =
    let here = length-newest_first size capacity bytes 0 n in
    let there = length-in_order size bytes n in
    same_lists _ _ (here ∙ sym there) (λ k d lt.
    let small : k < n = omega (arith, lt, here) in
    let place : 0 + k ≡ k = omega arith in
    at-newest_first size capacity bytes 0 n k d small
    ∙ ap (slot_record size bytes) (ap (λ (i : ℕ). i % capacity) place ∙ slot-here k capacity (omega
    (arith, small, few)))
    ∙ sym (at-in_order size bytes n k d small))

-- one record more lies in the slot behind the others
pub newest_first-more : (size capacity : ℕ) (bytes : List ℕ) (start n : ℕ)
    → newest_first size capacity bytes start (n + 1)
    ≡ newest_first size capacity bytes start n ++ slot_record size bytes ((start + n) % capacity) ∷ []
unfolding newest_first
newest_first-more size capacity bytes start n =
    let place : 0 + n ≡ n = omega arith in
    map-range_with_len_more (λ i. slot_record size bytes ((start + i) % capacity)) 0 n n place

-- the slot of a record: it lies before the end, or goes on at the first slot
slot-is : (start capacity k : ℕ) → start < capacity → k < capacity
    → ((start + k < capacity) × ((start + k) % capacity ≡ start + k))
    ⊎ ((capacity ≤ start + k) × ((start + k) % capacity ≡ start + k - capacity))
slot-is start capacity k lt small = ⊎_elim
    (λ (low : start + k < capacity). inl (low, slot-here (start + k) capacity low))
    (λ (high : capacity ≤ start + k). inr (high, slot-around (start + k) capacity high (omega (arith, lt, small))))
    (cases_lt (start + k) capacity)

-- different records lie in different slots
pub slots-differ : (start capacity i k : ℕ) → start < capacity → i < capacity → k < capacity → k ≢ i
    → (start + k) % capacity ≢ (start + i) % capacity
slots-differ start capacity i k lt small_i small_k other same =
    elim (slot-is start capacity i lt small_i) [
      | inl a ↦ elim (slot-is start capacity k lt small_k) [
        | inl b ↦ let z : ⊥ = omega (arith, a.1, b.1, same, other) in z
        | inr b ↦ let z : ⊥ = omega (arith, a.1, b.0, b.1, same, small_k) in z
      ]
      | inr a ↦ elim (slot-is start capacity k lt small_k) [
        | inl b ↦ let z : ⊥ = omega (arith, a.0, a.1, b.1, same, small_i) in z
        | inr b ↦ let z : ⊥ = omega (arith, a.0, a.1, b.0, b.1, same, other) in z
      ]
    ]

-- the slot before that of record 1
abbrev pub slot_before : ℕ → ℕ → ℕ
slot_before start capacity = (start + capacity - 1) % capacity

pub slot_before-small : (start capacity : ℕ) → start < capacity → slot_before start capacity < capacity
slot_before-small start capacity lt = ⊎_elim
    (λ (none : start < 1).
    let first : start + capacity - 1 < capacity = omega (arith, none, lt) in
    let e = slot-here (start + capacity - 1) capacity first in omega (arith, e, first))
    (λ (some : 1 ≤ start).
    let e = slot-around (start + capacity - 1) capacity (omega (arith, some)) (omega (arith, lt)) in
    omega (arith, e, lt, some))
    (cases_lt start 1)

-- from the slot before, record k + 1 is where record k was
pub slot_before-next : (start capacity k : ℕ) → start < capacity → k < capacity
    → (slot_before start capacity + (k + 1)) % capacity ≡ (start + k) % capacity
slot_before-next start capacity k lt small = ⊎_elim
    (λ (none : start < 1).
    let first : start + capacity - 1 < capacity = omega (arith, none, lt) in
    let e = slot-here (start + capacity - 1) capacity first in
    let sum : slot_before start capacity + (k + 1) ≡ capacity + (start + k) = omega (arith, e, none, lt) in
    ap (λ (n : ℕ). n % capacity) sum ∙ mod-eq-sub-mod (omega arith)
    ∙ (let less : capacity + (start + k) - capacity ≡ start + k = omega arith in ap (λ (n : ℕ). n % capacity) less))
    (λ (some : 1 ≤ start).
    let e = slot-around (start + capacity - 1) capacity (omega (arith, some)) (omega (arith, lt)) in
    let sum : slot_before start capacity + (k + 1) ≡ start + k = omega (arith, e, some, lt) in
    ap (λ (n : ℕ). n % capacity) sum)
    (cases_lt start 1)

-- none of the others is in that slot, as long as there is room for one more
pub slot_before-other : (start capacity k : ℕ) → start < capacity → k + 1 < capacity
    → (start + k) % capacity ≢ slot_before start capacity
slot_before-other start capacity k lt small same =
    let last : start + (capacity - 1) ≡ start + capacity - 1 = omega (arith, lt) in
    slots-differ start capacity (capacity - 1) k lt (omega (arith, lt)) (omega (arith, small))
    (λ is. let z : ⊥ = omega (arith, is, small) in z) (same ∙ ap (λ (n : ℕ). n % capacity) (sym last))

-- a record that is put into a slot
module _ (size capacity : ℕ) (bytes : List ℕ) (start n : ℕ) (new : List ℕ) (long : length new ≡ size)
    (fits : capacity * size ≤ length bytes) (lt : start < capacity) where
  abbrev pub before : ℕ
  before = slot_before start capacity

  before_within : before * size + size ≤ length bytes
  before_within = let w = slot-within size before capacity (slot_before-small start capacity lt) in omega (
    arith,
    w,
    fits,
  )

  slot_within : (a : ℕ) → a % capacity * size + size ≤ length bytes
  slot_within a =
      let some : 0 < capacity = omega (arith, lt) in
      let w = slot-within size (a % capacity) capacity (mod-lt a some) in omega (arith, w, fits)

  -- into that of one, which leaves the others
  put_elsewhere : (i k : ℕ) → i < capacity → k < capacity → k ≢ i
      → slot_record size (overwrite bytes ((start + i) % capacity * size) new) ((start + k) % capacity)
      ≡ slot_record size bytes ((start + k) % capacity)
  put_elsewhere i k small_i small_k other =
      slot-put_other size bytes ((start + i) % capacity) new long (slot_within (start + i)) ((start + k) % capacity)
      (slots-differ start capacity i k lt small_i small_k other) (slot_within (start + k))

  -- in place of it
  pub newest_first-put : (i : ℕ) → i < n → n ≤ capacity
      → newest_first size capacity (overwrite bytes ((start + i) % capacity * size) new) start n
      ≡ slice_set (newest_first size capacity bytes start n) i new
  newest_first-put i inside few =
      let at = (start + i) % capacity in
      let here = length-newest_first size capacity (overwrite bytes (at * size) new) start n in
      let old = length-newest_first size capacity bytes start n in
      let there = length-set (newest_first size capacity bytes start n) i new ∙ old in
      same_lists _ _ (here ∙ sym there) (λ k d small.
      let below : k < n = omega (arith, small, here) in
      at-newest_first size capacity (overwrite bytes (at * size) new) start n k d below
      ∙ elim (eqb_tells k i) [
        | inl same ↦
            let room : i < length (newest_first size capacity bytes start n) = omega (arith, old, inside) in
            ap (λ (j : ℕ). slot_record size (overwrite bytes (at * size) new) ((start + j) % capacity)) same.1
            ∙ slot-put_same size bytes at new long (slot_within (start + i))
            ∙ sym (ap (λ (j : ℕ). slice_index_or (slice_set (newest_first size capacity bytes start n) i new) j d)
            same.1
            ∙ get_or-set_same (newest_first size capacity bytes start n) i new d room)
        | inr other ↦
            put_elsewhere i k (omega (arith, inside, few)) (omega (arith, below, few)) other.1
            ∙ sym (get_or-set_other (newest_first size capacity bytes start n) i k new d other.1
            ∙ at-newest_first size capacity bytes start n k d below)
      ])

  -- behind the last one
  newest_first-before : n < capacity
      → newest_first size capacity (overwrite bytes ((start + n) % capacity * size) new) start n
      ≡ newest_first size capacity bytes start n
  newest_first-before room =
      let at = (start + n) % capacity in
      let here = length-newest_first size capacity (overwrite bytes (at * size) new) start n in
      let there = length-newest_first size capacity bytes start n in
      same_lists _ _ (here ∙ sym there) (λ k d small.
      let below : k < n = omega (arith, small, here) in
      let other : k ≢ n = λ same. let z : ⊥ = omega (arith, below, same) in z in
      at-newest_first size capacity (overwrite bytes (at * size) new) start n k d below
      ∙ put_elsewhere n k room (omega (arith, below, room)) other
      ∙ sym (at-newest_first size capacity bytes start n k d below))

  pub newest_first-back : n < capacity
      → newest_first size capacity (overwrite bytes ((start + n) % capacity * size) new) start (n + 1)
      ≡ newest_first size capacity bytes start n ++ new ∷ []
  newest_first-back room =
      newest_first-more size capacity (overwrite bytes ((start + n) % capacity * size) new) start n
      ∙ ap₂ (λ (rs : List (List ℕ)) (r : List ℕ). rs ++ r ∷ []) (newest_first-before room)
      (slot-put_same size bytes ((start + n) % capacity) new long (slot_within (start + n)))

  -- before the first one, in the slot before theirs
  pub newest_first-front : (many : ℕ) → 1 ≤ many → many ≤ capacity → many ≤ n + 1
      → newest_first size capacity (overwrite bytes (before * size) new) before many
      ≡ front many new (newest_first size capacity bytes start n)
  newest_first-front many some most more =
      let here = length-newest_first size capacity (overwrite bytes (before * size) new) before many in
      let old = length-newest_first size capacity bytes start n in
      let enough : many ≤ length (new ∷ newest_first size capacity bytes start n) = omega (arith, old, more) in
      let there = length-take-le many (new ∷ newest_first size capacity bytes start n) enough in
      same_lists _ _ (here ∙ sym there) (λ k d small.
      let below : k < many = omega (arith, small, here) in
      at-newest_first size capacity (overwrite bytes (before * size) new) before many k d below
      ∙ by_place k d below
      ∙ sym (get_or-take many (new ∷ newest_first size capacity bytes start n) k d below))
    where
      by_place : (k : ℕ) (d : List ℕ) → k < many
          → slot_record size (overwrite bytes (before * size) new) ((before + k) % capacity)
          ≡ slice_index_or (new ∷ newest_first size capacity bytes start n) k d
      by_place zero d below =
          let none : before + 0 ≡ before = omega arith in
          ap (slot_record size (overwrite bytes (before * size) new)) (ap (λ (i : ℕ). i % capacity) none
          ∙ slot-here before capacity (slot_before-small start capacity lt))
          ∙ slot-put_same size bytes before new long before_within
      by_place (suc k) d below =
          let next : before + suc k ≡ before + (k + 1) = omega arith in
          let inside : k < n = omega (arith, below, more) in
          let small : k < capacity = omega (arith, below, most) in
          let turn : (before + suc k) % capacity ≡ (start + k) % capacity =
          ap (λ (i : ℕ). i % capacity) next ∙ slot_before-next start capacity k lt small in
          ap (slot_record size (overwrite bytes (before * size) new)) turn
          ∙ slot-put_other size bytes before new long before_within ((start + k) % capacity)
          (slot_before-other start capacity k lt (omega (arith, below, most))) (slot_within (start + k))
          ∙ sym (at-newest_first size capacity bytes start n k d inside)
