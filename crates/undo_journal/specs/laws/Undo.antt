-- Laws of undo and of the data words, word by word.
use Rattle.std.proofs.Common.{◌≡◌, ◌≢◌, ◌==◌, ◌⊎◌, ◌<◌, ◌≤◌, ◌+◌, ℕ, zero, suc, Bool, true, false, List, [], ◌∷◌}
use Rattle.std.proofs.Common.{length, slice_index, slice_set, refl, sym, ◌∙◌, ap, subst, inl, inr, arith}
use Rattle.std.proofs.Common.{get_or-set_same, get_or-set_other}
use Rattle.std.specs.Prelude.{if◌then◌else◌}
use Rattle.std.proofs.Math.ListN.{length-set}
use Rattle.std.proofs.lemmas.Grind.{same_number_lists}
use Rattle.std.proofs.lemmas.Bool.{cases_lt}
use Rattle.std.proofs.lemmas.Bool.Decides.{eqb_tells, nat_tests}
use Rattle.std.proofs.lemmas.List.{get_or_past}
use Rattle.undo_journal.specs.declared.layout.TheConstants.{GATE, PAIRS}
use Rattle.undo_journal.specs.Undo.{Pair, gate, pairs_from, pairs, earlier, by_address, undo, in_journal, data_words}
use Rattle.undo_journal.specs.Undo.{IsOutside, IsDataAddress, IsSound}

-- by address: as many words
pub length-by_address : (f : ℕ → ℕ → ℕ) (a : ℕ) (m : List ℕ) → length (by_address f a m) ≡ length m
unfolding by_address
length-by_address f a [] = refl
length-by_address f a (w ∷ m) = ap suc (length-by_address f (a + 1) m)

-- by address: the word at an address
pub by_address-at : (f : ℕ → ℕ → ℕ) (a : ℕ) (m : List ℕ) (k : ℕ) → k < length m
    → slice_index (by_address f a m) k ≡ f (a + k) (slice_index m k)
unfolding by_address
by_address-at f a [] k lt = absurd (omega arith)
by_address-at f a (w ∷ m) zero lt = let here : a ≡ a + zero = omega arith in ap (λ (j : ℕ). f j w) here
by_address-at f a (w ∷ m) (suc k) lt =
    let place : a + 1 + k ≡ a + suc k = omega arith in
    let below : k < length m = omega arith in
    by_address-at f (a + 1) m k below ∙ ap (λ (j : ℕ). f j (slice_index m k)) place

-- the word that an address has after undo
abbrev pub undone_word : List ℕ → ℕ → ℕ
undone_word m k = if k == GATE then 0 else earlier (pairs m) k (slice_index m k)

-- the data word of an address
abbrev pub data_word : List ℕ → ℕ → ℕ
data_word m k = if in_journal k then 0 else slice_index m k

pub length-undo : (m : List ℕ) → length (undo m) ≡ length m
unfolding undo
length-undo m = length-by_address _ 0 m

pub undo-at : (m : List ℕ) (k : ℕ) → k < length m → slice_index (undo m) k ≡ undone_word m k
unfolding undo
undo-at m k lt =
    let word : ℕ → ℕ → ℕ = λ a w. if a == GATE then 0 else earlier (pairs m) a w in
    let z : 0 + k ≡ k = omega arith in
    by_address-at word 0 m k lt ∙ ap (λ (j : ℕ). word j (slice_index m k)) z

pub length-data_words : (m : List ℕ) → length (data_words m) ≡ length m
unfolding data_words
length-data_words m = length-by_address _ 0 m

pub data_words-at : (m : List ℕ) (k : ℕ) → k < length m → slice_index (data_words m) k ≡ data_word m k
unfolding data_words
data_words-at m k lt =
    let word : ℕ → ℕ → ℕ = λ a w. if in_journal a then 0 else w in
    let z : 0 + k ≡ k = omega arith in
    by_address-at word 0 m k lt ∙ ap (λ (j : ℕ). word j (slice_index m k)) z

-- two memories that agree word by word after undo
pub undo-same : (m n : List ℕ) → length m ≡ length n → ((k : ℕ) → k < length m → undone_word m k ≡ undone_word n k)
    → undo m ≡ undo n
undo-same m n size words =
    same_number_lists (undo m) (undo n) (length-undo m ∙ size ∙ sym (length-undo n)) (λ k lt.
    let below : k < length m = omega (arith, length-undo m) in
    let below_n : k < length n = omega (arith, length-undo m) in
    undo-at m k below ∙ words k below ∙ sym (undo-at n k below_n))

-- an address outside the journal is not in it
pub outside-in_journal : (k : ℕ) → IsOutside k → in_journal k ≡ false
outside-in_journal k h = grind (arith, nat_tests)

-- an address is in the journal or outside it
pub in_journal-cases : (k : ℕ) → (in_journal k ≡ true) ⊎ ((in_journal k ≡ false) × IsOutside k)
in_journal-cases k = grind (arith, nat_tests)

-- two memories that agree on each data word
pub data_words-same : (m n : List ℕ) → length m ≡ length n
    → ((k : ℕ) → k < length m → IsOutside k → slice_index m k ≡ slice_index n k) → data_words m ≡ data_words n
data_words-same m n size words =
    let word : ℕ → Bool → ℕ → ℕ = λ k b w. if b then 0 else w in
    let each : (k : ℕ) → k < length m → data_word m k ≡ data_word n k = λ k lt. elim (in_journal-cases k) [
      | inl inside ↦ ap (λ (b : Bool). word k b (slice_index m k)) inside
          ∙ sym (ap (λ (b : Bool). word k b (slice_index n k)) inside)
      | inr out ↦ ap (λ (w : ℕ). word k (in_journal k) w) (words k lt out.1)
    ] in
    same_number_lists (data_words m) (data_words n) (length-data_words m ∙ size ∙ sym (length-data_words n)) (λ k lt.
    let below : k < length m = omega (arith, length-data_words m) in
    let below_n : k < length n = omega (arith, length-data_words m) in
    data_words-at m k below ∙ each k below ∙ sym (data_words-at n k below_n))

-- a data word is the memory's word
pub data_words-outside : (m : List ℕ) (k : ℕ) → k < length m → IsOutside k
    → slice_index (data_words m) k ≡ slice_index m k
data_words-outside m k lt out = data_words-at m k lt
    ∙ ap (λ (b : Bool). if b then 0 else slice_index m k) (outside-in_journal k out)

-- a data word is set
pub data_words-set : (m : List ℕ) (a w : ℕ) → IsDataAddress m a
    → data_words (slice_set m a w) ≡ slice_set (data_words m) a w
data_words-set m a w place =
    same_number_lists _ _ (length-data_words (slice_set m a w) ∙ length-set m a w ∙ sym (length-data_words m)
    ∙ sym (length-set (data_words m) a w)) (λ k lt.
    let below : k < length (slice_set m a w) = omega (arith, length-data_words (slice_set m a w)) in
    let below_m : k < length m = omega (arith, length-set m a w) in
    let within : a < length (data_words m) = omega (arith, length-data_words m) in
    elim (eqb_tells k a) [
      | inl same ↦
          let set_there : slice_index (data_words (slice_set m a w)) a ≡ w =
          data_words-outside (slice_set m a w) a
          (let l : a < length (slice_set m a w) = omega (arith, length-set m a w) in l) place.0
          ∙ get_or-set_same m a w 0 place.1 in
          let family : ℕ → Type 0 = λ j. slice_index (data_words (slice_set m a w)) j ≡ slice_index
          (slice_set (data_words m) a w) j in
          subst family (sym same.1) (set_there ∙ sym (get_or-set_same (data_words m) a w 0 within))
      | inr other ↦
          data_words-at (slice_set m a w) k below
          ∙ ap (λ (v : ℕ). if in_journal k then 0 else v) (get_or-set_other m a k w 0 other.1)
          ∙ sym (data_words-at m k below_m) ∙ sym (get_or-set_other (data_words m) a k w 0 other.1)
    ])

-- two memories whose data words agree after undo
pub committed-same : (m n : List ℕ) → length m ≡ length n
    → ((k : ℕ) → k < length m → IsOutside k
    → earlier (pairs m) k (slice_index m k) ≡ earlier (pairs n) k (slice_index n k))
    → data_words (undo m) ≡ data_words (undo n)
committed-same m n size words =
    data_words-same (undo m) (undo n) (length-undo m ∙ size ∙ sym (length-undo n)) (λ k lt out.
    let below : k < length m = omega (arith, length-undo m) in
    let below_n : k < length n = omega (arith, length-undo m) in
    let other : k ≢ GATE = grind arith in
    let chosen : (w : ℕ) → (if k == GATE then 0 else w) ≡ w = λ w. elim (eqb_tells k GATE) [
      | inl same ↦ absurd (other same.1)
      | inr differs ↦ ap (λ (b : Bool). if b then 0 else w) differs.0
    ] in
    undo-at m k below ∙ chosen _ ∙ words k below out ∙ sym (chosen _) ∙ sym (undo-at n k below_n))

-- where no pair counts
module _ (m : List ℕ) (shut : gate m ≡ 0) where
  pub pairs_shut : pairs m ≡ []
  unfolding pairs_from
  pairs_shut = ap (λ (c : ℕ). pairs_from m 0 c) shut

  -- undo is defined
  pub sound_shut : IsSound m
  sound_shut = record {
    room = (let room : gate m ≤ PAIRS = omega arith in room);
    places = λ i d lt. absurd (let none : length (pairs m) ≡ 0 = ap length pairs_shut in omega (arith, none, lt));
  }

  -- and it is the memory itself
  pub undo_shut : undo m ≡ m
  unfolding earlier
  undo_shut = same_number_lists (undo m) m (length-undo m) (λ k lt.
      let below : k < length m = omega (arith, length-undo m) in
      undo-at m k below ∙ elim (eqb_tells k GATE) [
        | inl same ↦ ap (λ (b : Bool). if b then 0 else earlier (pairs m) k (slice_index m k)) same.0
            ∙ sym (ap (λ (j : ℕ). slice_index m j) same.1 ∙ shut)
        | inr other ↦ ap (λ (b : Bool). if b then 0 else earlier (pairs m) k (slice_index m k)) other.0
            ∙ ap (λ (ps : List Pair). earlier ps k (slice_index m k)) pairs_shut
      ])

-- after undo no pair counts
pub gate_undone : (m : List ℕ) → gate (undo m) ≡ 0
gate_undone m = elim (cases_lt GATE (length m)) [
  | inl within ↦ undo-at m GATE within
  | inr past ↦ let none : length (undo m) ≤ GATE = omega (arith, length-undo m) in get_or_past (undo m) GATE 0 none
]

-- undo twice is undo
pub undo_undo : (m : List ℕ) → undo (undo m) ≡ undo m
undo_undo m = undo_shut (undo m) (gate_undone m)

-- of a memory after undo, undo is defined
pub undo_sound : (m : List ℕ) → IsSound (undo m)
undo_sound m = sound_shut (undo m) (gate_undone m)
