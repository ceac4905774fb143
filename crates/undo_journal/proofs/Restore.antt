-- What the writes of a rollback do: earlier words put back from the last pair to the first, and then the gate.
use Rattle.std.proofs.Common.{◌≡◌, ◌≢◌, ◌==◌, ◌⊎◌, ◌<◌, ◌≤◌, ◌+◌, ◌*◌, ℕ, suc, Bool, List, [], ◌∷◌, length, get_or}
use Rattle.std.proofs.Common.{slice_index, slice_set, refl, sym, ◌∙◌, ap, subst, inl, inr, drop, arith, get_or-set_same}
use Rattle.std.proofs.Common.{get_or-set_other}
use Rattle.std.specs.Prelude.{All, if◌then◌else◌}
use Rattle.undo_journal.specs.Spending.{rollback_writes}
use Rattle.std.proofs.Math.ListN.{length-set}
use Rattle.std.proofs.Math.Seq.{drop-cons}
use Rattle.std.proofs.lemmas.List.{drop_all}
use Rattle.std.proofs.lemmas.List.Elements.{All-drop}
use Rattle.std.proofs.lemmas.Grind.{same_number_lists}
use Rattle.std.proofs.lemmas.Bool.Decides.{eqb_tells}
use Rattle.std.proofs.Math.Logic.{⊎_elim}
use Rattle.undo_journal.specs.declared.layout.TheConstants.{GATE, JOURNAL, JOURNAL_END}
use Rattle.undo_journal.specs.Undo.{Pair, gate, pair_at, pairs_from, pairs, earlier, undo, IsOutside, IsDataAddress}
use Rattle.undo_journal.specs.Undo.{IsSound}
use Rattle.undo_journal.specs.laws.Undo.{length-undo, undo-at, undo-same, undo_undo, undo_sound}
use Rattle.undo_journal.proofs.Pairs.{length-pairs_from, pairs_from-at, pairs_from-same, earlier-drop}
use Rattle.undo_journal.proofs.Saving.{place-at, sound-same}

-- a memory with the earlier words of these pairs put back, the first pair last
unfoldable pub restored : List Pair → List ℕ → List ℕ
restored [] m = m
restored (p ∷ ps) m = slice_set (restored ps m) p.address p.earlier

pub length-restored : (ps : List Pair) (m : List ℕ) → length (restored ps m) ≡ length m
unfolding restored
length-restored [] m = refl
length-restored (p ∷ ps) m = length-set (restored ps m) p.address p.earlier ∙ length-restored ps m

-- a word put back is what a look-up gives
pub restored-at : (ps : List Pair) (m : List ℕ) (k : ℕ) → k < length m
    → slice_index (restored ps m) k ≡ earlier ps k (slice_index m k)
unfolding restored earlier
restored-at [] m k lt = refl
restored-at (p ∷ ps) m k lt = elim (eqb_tells p.address k) [
  | inl same ↦
      let within : k < length (restored ps m) = omega (arith, length-restored ps m) in
      let put : slice_index (slice_set (restored ps m) k p.earlier) k ≡ p.earlier =
      get_or-set_same (restored ps m) k p.earlier 0 within in
      ap (λ (j : ℕ). slice_index (slice_set (restored ps m) j p.earlier) k) same.1 ∙ put
      ∙ sym (ap (λ (b : Bool). if b then p.earlier else earlier ps k (slice_index m k)) same.0)
  | inr other ↦
      let differs : k ≢ p.address = λ e. other.1 (sym e) in
      get_or-set_other (restored ps m) p.address k p.earlier 0 differs ∙ restored-at ps m k lt
      ∙ sym (ap (λ (b : Bool). if b then p.earlier else earlier ps k (slice_index m k)) other.0)
]

-- words of gate and journal stay
pub restored-journal : (ps : List Pair) (m l : List ℕ) → All (λ p. IsDataAddress l p.address) ps
    → (k : ℕ) → GATE ≤ k → k < JOURNAL_END → slice_index (restored ps m) k ≡ slice_index m k
unfolding restored
restored-journal [] m l places k le lt = refl
restored-journal (p ∷ ps) m l places k le lt =
    let some : 0 < suc (length ps) = omega arith in
    let out : IsOutside p.address = (places 0 p some).0 in
    let other : k ≢ p.address = grind arith in
    get_or-set_other (restored ps m) p.address k p.earlier 0 other
    ∙ restored-journal ps m l (λ i d below. let next : suc i < suc (length ps) = omega arith in places (suc i) d next) k
    le lt

-- the pairs from pair i on put back
abbrev pub put_back_from : List ℕ → ℕ → List ℕ
put_back_from m i = restored (drop i (pairs m)) m

module _ (m : List ℕ) (sound : IsSound m) where
  -- no pair put back
  pub put_back-none : put_back_from m (gate m) ≡ m
  unfolding restored
  put_back-none = ap (λ (ps : List Pair). restored ps m)
      (let le : length (pairs m) ≤ gate m = omega (arith, length-pairs_from m 0 (gate m)) in
      drop_all (gate m) (pairs m) le)

  -- one pair more put back
  pub put_back-more : (i : ℕ) → i < gate m
      → slice_set (put_back_from m (suc i)) (pair_at m i).address (pair_at m i).earlier ≡ put_back_from m i
  unfolding restored
  put_back-more i lt =
      let d : Pair = pair_at m i in
      let z : 0 + i ≡ i = omega arith in
      let there : get_or (pairs m) i d ≡ pair_at m i = pairs_from-at m 0 (gate m) i d lt
      ∙ ap (λ (j : ℕ). pair_at m j) z in
      let below : i < length (pairs m) = omega (arith, length-pairs_from m 0 (gate m)) in
      sym (ap (λ (ps : List Pair). restored ps m)
      (drop-cons (pairs m) i d below ∙ ap (λ (p : Pair). p ∷ drop (suc i) (pairs m)) there))

  pub length-put_back : (i : ℕ) → length (put_back_from m i) ≡ length m
  length-put_back i = length-restored (drop i (pairs m)) m

  -- gate and journal stay
  pub put_back-journal : (i k : ℕ) → GATE ≤ k → k < JOURNAL_END → slice_index (put_back_from m i) k ≡ slice_index m k
  put_back-journal i k le lt = restored-journal (drop i (pairs m)) m m
      (All-drop (λ p. IsDataAddress m p.address) i (pairs m) sound.places) k le lt

  pub gate-put_back : (i : ℕ) → gate (put_back_from m i) ≡ gate m
  gate-put_back i = let le : GATE ≤ GATE = omega arith in let lt : GATE < JOURNAL_END = omega arith in
      put_back-journal i GATE le lt

  pub pairs-put_back : (i : ℕ) → pairs (put_back_from m i) ≡ pairs m
  pairs-put_back i =
      ap (λ (c : ℕ). pairs_from (put_back_from m i) 0 c) (gate-put_back i)
      ∙ pairs_from-same (put_back_from m i) m 0 (gate m) (λ k above below.
      let le : GATE ≤ k = omega arith in
      let lt : k < JOURNAL_END = omega (arith, sound.room) in
      put_back-journal i k le lt)

  -- undo of a memory that is partly put back
  pub undo-put_back : (i : ℕ) → undo (put_back_from m i) ≡ undo m
  undo-put_back i = undo-same (put_back_from m i) m (length-put_back i) (λ k lt.
      let below : k < length m = omega (arith, length-put_back i) in
      let words : earlier (pairs (put_back_from m i)) k (slice_index (put_back_from m i) k) ≡ earlier (pairs m) k
      (slice_index m k) =
      ap (λ (ps : List Pair). earlier ps k (slice_index (put_back_from m i) k)) (pairs-put_back i)
      ∙ ap (λ (w : ℕ). earlier (pairs m) k w) (restored-at (drop i (pairs m)) m k below)
      ∙ earlier-drop (pairs m) i k (slice_index m k) in
      ap (λ (w : ℕ). if k == GATE then 0 else w) words)

  -- its journal stays sound
  pub sound-put_back : (i : ℕ) → IsSound (put_back_from m i)
  sound-put_back i = sound-same m (put_back_from m i) (sym (length-put_back i)) (sym (gate-put_back i))
      (sym (pairs-put_back i)) sound

  -- all pairs put back, and the gate 0
  pub put_back-done : GATE < length m → slice_set (put_back_from m 0) GATE 0 ≡ undo m
  put_back-done within =
      let n = put_back_from m 0 in
      same_number_lists (slice_set n GATE 0) (undo m) (length-set n GATE 0 ∙ length-put_back 0 ∙ sym (length-undo m))
      (λ k lt.
      let below : k < length m = omega (arith, length-set n GATE 0, length-put_back 0) in
      let within_n : GATE < length n = omega (arith, length-put_back 0) in
      elim (eqb_tells k GATE) [
        | inl same ↦
            ap (λ (j : ℕ). slice_index (slice_set n GATE 0) j) same.1 ∙ get_or-set_same n GATE 0 0 within_n
            ∙ sym (undo-at m k below ∙ ap (λ (b : Bool). if b then 0 else earlier (pairs m) k (slice_index m k)) same.0)
        | inr other ↦
            get_or-set_other n GATE k 0 0 other.1 ∙ restored-at (drop 0 (pairs m)) m k below
            ∙ sym (undo-at m k below ∙ ap (λ (b : Bool). if b then 0 else earlier (pairs m) k (slice_index m k))
            other.0)
      ])

-- A rollback of the words m: of the pairs from the one numbered `left` on the earlier words are put back,
-- which gives now.
module _ (m now : List ℕ) (sound : IsSound m) (left : ℕ) (so_far : now ≡ put_back_from m left) where
  pair-now : (i : ℕ) → i < gate m → pair_at now i ≡ pair_at m i
  pair-now i lt =
      let pair : ℕ → ℕ → Pair = λ x w. record { address = x; earlier = w } in
      let word : (k : ℕ) → JOURNAL ≤ k → k < JOURNAL_END → slice_index now k ≡ slice_index m k = λ k above below.
      let le : GATE ≤ k = omega arith in ap (λ (l : List ℕ). slice_index l k) so_far
      ∙ put_back-journal m sound left k le below in
      let first : slice_index now (JOURNAL + 2 * i) ≡ slice_index m (JOURNAL + 2 * i) =
      word (JOURNAL + 2 * i) (let le : JOURNAL ≤ JOURNAL + 2 * i = omega arith in le)
      (let b : JOURNAL + 2 * i < JOURNAL_END = omega (arith, sound.room) in b) in
      let second : slice_index now (JOURNAL + 2 * i + 1) ≡ slice_index m (JOURNAL + 2 * i + 1) =
      word (JOURNAL + 2 * i + 1) (let le : JOURNAL ≤ JOURNAL + 2 * i + 1 = omega arith in le)
      (let b : JOURNAL + 2 * i + 1 < JOURNAL_END = omega (arith, sound.room) in b) in
      ap (λ (x : ℕ). pair x (slice_index now (JOURNAL + 2 * i + 1))) first
      ∙ ap (λ (w : ℕ). pair (slice_index m (JOURNAL + 2 * i)) w) second

  size-now : length now ≡ length m
  size-now = ap (λ (l : List ℕ). length l) so_far ∙ length-put_back m sound left

  -- the next pair names a data word
  pub turn-place : (i : ℕ) → i < gate m → IsDataAddress now (pair_at now i).address
  turn-place i lt =
      let family : Pair → Type 0 = λ p. IsDataAddress m p.address in
      let named : IsDataAddress m (pair_at now i).address =
      subst family (sym (pair-now i lt)) (place-at m sound i lt) in
      (named.0, (let below : (pair_at now i).address < length now = omega (arith, size-now, named.1) in below))

  -- the next pair is put back
  pub turn-done : (i : ℕ) (n : List ℕ) → left ≡ suc i → i < gate m
      → n ≡ slice_set now (pair_at now i).address (pair_at now i).earlier → n ≡ put_back_from m i
  turn-done i n next lt done =
      done
      ∙ ap (λ (p : Pair). slice_set now p.address p.earlier) (pair-now i lt)
      ∙ ap (λ (l : List ℕ). slice_set l (pair_at m i).address (pair_at m i).earlier)
      (so_far ∙ ap (λ (j : ℕ). put_back_from m j) next)
      ∙ put_back-more m sound i lt

  -- the next pair is put back or not
  pub turn-kept : (i : ℕ) (n : List ℕ) → left ≡ suc i → i < gate m → (n ≡ now)
      ⊎ (n ≡ slice_set now (pair_at now i).address (pair_at now i).earlier) → undo n ≡ undo m
  turn-kept i n next lt torn = ⊎_elim
      (λ old. ap undo (old ∙ so_far) ∙ undo-put_back m sound left)
      (λ new. ap undo (turn-done i n next lt new) ∙ undo-put_back m sound i)
      torn

  pub turn-sound : (i : ℕ) (n : List ℕ) → left ≡ suc i → i < gate m → (n ≡ now)
      ⊎ (n ≡ slice_set now (pair_at now i).address (pair_at now i).earlier) → IsSound n
  turn-sound i n next lt torn = ⊎_elim
      (λ old. subst (λ (l : List ℕ). IsSound l) (sym (old ∙ so_far)) (sound-put_back m sound left))
      (λ new. subst (λ (l : List ℕ). IsSound l) (sym (turn-done i n next lt new)) (sound-put_back m sound i))
      torn

  -- at the end the gate is set to 0
  pub end-done : (n : List ℕ) → GATE < length m → left ≡ 0 → n ≡ slice_set now GATE 0 → n ≡ undo m
  end-done n within none done =
      done ∙ ap (λ (l : List ℕ). slice_set l GATE 0) (so_far ∙ ap (λ (j : ℕ). put_back_from m j) none)
      ∙ put_back-done m sound within

  pub end-kept : (n : List ℕ) → GATE < length m → left ≡ 0 → (n ≡ now) ⊎ (n ≡ slice_set now GATE 0) → undo n ≡ undo m
  end-kept n within none torn = ⊎_elim
      (λ old. ap undo (old ∙ so_far) ∙ undo-put_back m sound left)
      (λ new. ap undo (end-done n within none new) ∙ undo_undo m)
      torn

  pub end-sound : (n : List ℕ) → GATE < length m → left ≡ 0 → (n ≡ now) ⊎ (n ≡ slice_set now GATE 0) → IsSound n
  end-sound n within none torn = ⊎_elim
      (λ old. subst (λ (l : List ℕ). IsSound l) (sym (old ∙ so_far)) (sound-put_back m sound left))
      (λ new. subst (λ (l : List ℕ). IsSound l) (sym (end-done n within none new)) (undo_sound m))
      torn

-- what a rollback of some pairs costs
pub rollback_some : (pairs : ℕ) → pairs ≢ 0 → rollback_writes pairs ≡ pairs + 1
rollback_some pairs some = elim (eqb_tells pairs 0) [
  | inl none ↦ absurd (some none.1)
  | inr other ↦ ap (λ (b : Bool). if b then 0 else pairs + 1) other.0
]
