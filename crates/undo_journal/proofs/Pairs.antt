-- The pairs of a journal: each by its number, and what a look-up gives.
use Rattle.std.proofs.Common.{◌≡◌, ◌==◌, ◌<◌, ◌≤◌, ◌+◌, ◌*◌, ℕ, zero, suc, Bool, List, [], ◌∷◌, ◌++◌, length, get_or}
use Rattle.std.proofs.Common.{slice_index, refl, sym, ◌∙◌, ap, inl, inr, drop, arith, slice_set, ◌≢◌, ⊎_elim}
use Rattle.std.proofs.Common.{get_or-set_same, get_or-set_other}
use Rattle.std.specs.Prelude.{if◌then◌else◌, All}
use Rattle.std.proofs.Math.ListN.{length-set}
use Rattle.std.proofs.lemmas.List.Elements.{All-nil, All-cons}
use Rattle.nvm_board.specs.History.{written}
use Rattle.nvm_board.specs.laws.Torn.{written-elsewhere}
use Rattle.undo_journal.specs.declared.batch.Waiting.{Waiting}
use Rattle.undo_journal.specs.Batches.{AreSets}
use Rattle.undo_journal.specs.JournalParts.{pairs_of, pair_words, Names, AllNamed}
use Rattle.std.proofs.lemmas.Bool.Decides.{eqb_tells}
use Rattle.undo_journal.specs.declared.layout.TheConstants.{JOURNAL}
use Rattle.undo_journal.specs.Undo.{Pair, pair_at, pairs_from, earlier, IsDataAddress}

pub length-pairs_from : (m : List ℕ) (i n : ℕ) → length (pairs_from m i n) ≡ n
unfolding pairs_from
length-pairs_from m i zero = refl
length-pairs_from m i (suc n) = ap suc (length-pairs_from m (i + 1) n)

-- a pair by its number
pub pairs_from-at : (m : List ℕ) (i n k : ℕ) (d : Pair) → k < n → get_or (pairs_from m i n) k d ≡ pair_at m (i + k)
unfolding pairs_from
pairs_from-at m i zero k d lt = absurd (omega arith)
pairs_from-at m i (suc n) zero d lt = let here : i ≡ i + zero = omega arith in ap (λ (j : ℕ). pair_at m j) here
pairs_from-at m i (suc n) (suc k) d lt =
    let place : i + 1 + k ≡ i + suc k = omega arith in
    let below : k < n = omega arith in
    pairs_from-at m (i + 1) n k d below ∙ ap (λ (j : ℕ). pair_at m j) place

-- the same pairs, from words that are the same
pub pairs_from-same : (m l : List ℕ) (i n : ℕ)
    → ((k : ℕ) → JOURNAL + 2 * i ≤ k → k < JOURNAL + 2 * (i + n) → slice_index m k ≡ slice_index l k)
    → pairs_from m i n ≡ pairs_from l i n
unfolding pairs_from
pairs_from-same m l i zero words = refl
pairs_from-same m l i (suc n) words =
    let pair : ℕ → ℕ → Pair = λ a w. record { address = a; earlier = w } in
    let at_first : JOURNAL + 2 * i ≤ JOURNAL + 2 * i = omega arith in
    let before_first : JOURNAL + 2 * i < JOURNAL + 2 * (i + suc n) = omega arith in
    let at_second : JOURNAL + 2 * i ≤ JOURNAL + 2 * i + 1 = omega arith in
    let before_second : JOURNAL + 2 * i + 1 < JOURNAL + 2 * (i + suc n) = omega arith in
    let first : pair_at m i ≡ pair_at l i =
    ap (λ (a : ℕ). pair a (slice_index m (JOURNAL + 2 * i + 1))) (words (JOURNAL + 2 * i) at_first before_first)
    ∙ ap (λ (w : ℕ). pair (slice_index l (JOURNAL + 2 * i)) w) (words (JOURNAL + 2 * i + 1) at_second before_second) in
    let rest : pairs_from m (i + 1) n ≡ pairs_from l (i + 1) n = pairs_from-same m l (i + 1) n (λ k above below.
    let le : JOURNAL + 2 * i ≤ k = omega arith in
    let lt : k < JOURNAL + 2 * (i + suc n) = omega arith in words k le lt) in
    ap (λ (p : Pair). p ∷ pairs_from m (i + 1) n) first ∙ ap (λ (ps : List Pair). pair_at l i ∷ ps) rest

-- pairs before, and pairs after
pub pairs_from-add : (m : List ℕ) (i g n : ℕ) → pairs_from m i (g + n) ≡ pairs_from m i g ++ pairs_from m (i + g) n
unfolding pairs_from
pairs_from-add m i zero n =
    let none : zero + n ≡ n = omega arith in
    let here : i ≡ i + zero = omega arith in
    ap (λ (t : ℕ). pairs_from m i t) none ∙ ap (λ (j : ℕ). pairs_from m j n) here
pairs_from-add m i (suc g) n =
    let more : suc g + n ≡ suc (g + n) = omega arith in
    let place : i + 1 + g ≡ i + suc g = omega arith in
    ap (λ (t : ℕ). pairs_from m i t) more
    ∙ ap (λ (ps : List Pair). pair_at m i ∷ ps)
    (pairs_from-add m (i + 1) g n ∙ ap (λ (j : ℕ). pairs_from m (i + 1) g ++ pairs_from m j n) place)

-- a look-up among pairs, and then among others
pub earlier-append : (ps qs : List Pair) (a w : ℕ) → earlier (ps ++ qs) a w ≡ earlier ps a (earlier qs a w)
unfolding earlier
earlier-append [] qs a w = refl
earlier-append (p ∷ ps) qs a w = ap (λ (v : ℕ). if p.address == a then p.earlier else v) (earlier-append ps qs a w)

-- the word itself does not matter where a pair names its address
pub earlier-named : (ps : List Pair) (a v w : ℕ) → Names ps a → earlier ps a v ≡ earlier ps a w
unfolding earlier
earlier-named [] a v w named = absurd named
earlier-named (p ∷ ps) a v w named = elim (eqb_tells p.address a) [
  | inl same ↦ ap (λ (b : Bool). if b then p.earlier else earlier ps a v) same.0
      ∙ sym (ap (λ (b : Bool). if b then p.earlier else earlier ps a w) same.0)
  | inr other ↦ ap (λ (u : ℕ). if p.address == a then p.earlier else u)
      (earlier-named ps a v w (⊎_elim (λ here. absurd (other.1 here)) (λ rest. rest) named))
]

-- the pairs of sets tell the words as they are
pub earlier-pairs_of : (m : List ℕ) (sets : List Waiting) (a : ℕ)
    → earlier (pairs_of m sets) a (slice_index m a) ≡ slice_index m a
unfolding earlier
earlier-pairs_of m [] a = refl
earlier-pairs_of m (s ∷ rest) a = elim (eqb_tells s.at a) [
  | inl same ↦
      ap (λ (b : Bool). if b then slice_index m s.at else earlier (pairs_of m rest) a (slice_index m a)) same.0
      ∙ ap (λ (j : ℕ). slice_index m j) same.1
  | inr other ↦
      ap (λ (b : Bool). if b then slice_index m s.at else earlier (pairs_of m rest) a (slice_index m a)) other.0
      ∙ earlier-pairs_of m rest a
]

-- they name each address
names-after : (qs ps : List Pair) (a : ℕ) → Names ps a → Names (qs ++ ps) a
names-after [] ps a named = named
names-after (q ∷ qs) ps a named = inr (names-after qs ps a named)

all_named-more : (ps qs : List Pair) (sets : List Waiting) → ((a : ℕ) → Names ps a → Names qs a) → AllNamed ps sets
    → AllNamed qs sets
all_named-more ps qs [] more named = tt
all_named-more ps qs (s ∷ rest) more named = (more s.at named.0, all_named-more ps qs rest more named.1)

all_named-pairs_of : (m : List ℕ) (sets : List Waiting) → AllNamed (pairs_of m sets) sets
all_named-pairs_of m [] = tt
all_named-pairs_of m (s ∷ rest) = (
  inl refl,
  all_named-more (pairs_of m rest) (pairs_of m (s ∷ rest)) rest (λ a named. inr named)
      (all_named-pairs_of m rest),
)

pub all_named-after : (qs : List Pair) (m : List ℕ) (sets : List Waiting) → AllNamed (qs ++ pairs_of m sets) sets
all_named-after qs m sets =
    all_named-more (pairs_of m sets) (qs ++ pairs_of m sets) sets (names-after qs (pairs_of m sets))
    (all_named-pairs_of m sets)

-- of data words
pub pairs_of-places : (m l : List ℕ) (sets : List Waiting) (least : ℕ) → AreSets (length l) least sets
    → All (λ p. IsDataAddress l p.address) (pairs_of m sets)
pairs_of-places m l [] least h = All-nil (λ p. IsDataAddress l p.address)
pairs_of-places m l (s ∷ rest) least h =
    All-cons (λ p. IsDataAddress l p.address) (record { address = s.at; earlier = slice_index m s.at })
    (pairs_of m rest) (h.0.outside, h.0.within) (pairs_of-places m l rest (s.at + 1) h.1)

-- as words of the journal
pub length-pair_words : (m : List ℕ) (sets : List Waiting) → length (pair_words m sets) ≡ 2 * length sets
length-pair_words m [] = refl
length-pair_words m (s ∷ rest) = omega (arith, length-pair_words m rest)

-- written into the journal they are its pairs
pub pairs_from-written : (e m : List ℕ) (sets : List Waiting) (g : ℕ) → JOURNAL + 2 * (g + length sets) ≤ length m
    → pairs_from (written m (JOURNAL + 2 * g) (pair_words e sets)) g (length sets) ≡ pairs_of e sets
unfolding pairs_from
pairs_from-written e m [] g fits = refl
pairs_from-written e m (s ∷ rest) g fits =
    let pair : ℕ → ℕ → Pair = λ a w. record { address = a; earlier = w } in
    let word : ℕ = slice_index e s.at in
    let here : ℕ = JOURNAL + 2 * g in
    let once : List ℕ = slice_set m here s.at in
    let twice : List ℕ = slice_set once (here + 1) word in
    let last : List ℕ = written twice (here + 1 + 1) (pair_words e rest) in
    let low : here < here + 1 + 1 = omega arith in
    let low_next : here + 1 < here + 1 + 1 = omega arith in
    let within : here < length m = omega arith in
    let within_next : here + 1 < length once = omega (arith, length-set m here s.at) in
    let differs : here ≢ here + 1 = omega arith in
    let first : slice_index last here ≡ s.at =
    written-elsewhere twice (pair_words e rest) (here + 1 + 1) here (inl low)
    ∙ get_or-set_other once (here + 1) here word 0 differs ∙ get_or-set_same m here s.at 0 within in
    let second : slice_index last (here + 1) ≡ word =
    written-elsewhere twice (pair_words e rest) (here + 1 + 1) (here + 1) (inl low_next)
    ∙ get_or-set_same once (here + 1) word 0 within_next in
    let on : JOURNAL + 2 * g + 1 + 1 ≡ JOURNAL + 2 * (g + 1) = omega arith in
    let fits_on : JOURNAL + 2 * (g + 1 + length rest) ≤ length twice =
    omega (arith, length-set m here s.at, length-set once (here + 1) word) in
    ap (λ (a : ℕ). pair a (slice_index last (here + 1)) ∷ pairs_from last (g + 1) (length rest)) first
    ∙ ap (λ (w : ℕ). pair s.at w ∷ pairs_from last (g + 1) (length rest)) second
    ∙ ap (λ (ps : List Pair). pair s.at word ∷ ps)
    (ap (λ (a : ℕ). pairs_from (written twice a (pair_words e rest)) (g + 1) (length rest)) on
    ∙ pairs_from-written e twice rest (g + 1) fits_on)

-- a look-up among all pairs forgets what one among the later pairs gave
pub earlier-drop : (ps : List Pair) (i a w : ℕ) → earlier ps a (earlier (drop i ps) a w) ≡ earlier ps a w
unfolding earlier
earlier-drop [] zero a w = refl
earlier-drop [] (suc i) a w = refl
earlier-drop (p ∷ ps) zero a w = elim (eqb_tells p.address a) [
  | inl same ↦
      let first : (u : ℕ) → (if p.address == a then p.earlier else u) ≡ p.earlier =
      λ u. ap (λ (b : Bool). if b then p.earlier else u) same.0 in
      first _ ∙ sym (first _)
  | inr other ↦
      let next : (u : ℕ) → (if p.address == a then p.earlier else u) ≡ u =
      λ u. ap (λ (b : Bool). if b then p.earlier else u) other.0 in
      next _ ∙ ap (λ (u : ℕ). earlier ps a u) (next _) ∙ earlier-drop ps 0 a w ∙ sym (next _)
]
earlier-drop (p ∷ ps) (suc i) a w = ap (λ (u : ℕ). if p.address == a then p.earlier else u) (earlier-drop ps i a w)
