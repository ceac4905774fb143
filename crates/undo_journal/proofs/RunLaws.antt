-- The runs of sets: with one more of them, and as they are written.
use Rattle.std.proofs.Common.{◌≡◌, ◌≢◌, ◌<◌, ◌≤◌, ◌+◌, ◌-◌, ◌%◌, ℕ, zero, suc, Bool, List}
use Rattle.std.proofs.Common.{[], ◌∷◌, length, drop, get_or, slice_set, refl, sym, ◌∙◌, ap, subst, inl, inr, arith}
use Rattle.std.proofs.Common.{Some, None, is_some, IsSome, true≢false}
use Rattle.std.specs.Prelude.{if◌then◌else◌}
use Rattle.std.proofs.lemmas.Bool.Decides.{eqb_tells}
use Rattle.nvm_board.specs.declared.board.TheConstants.{PAGE_WORDS}
use Rattle.nvm_board.specs.History.{written}
use Rattle.undo_journal.specs.declared.batch.Waiting.{Waiting}
use Rattle.undo_journal.specs.Undo.{Pair, IsDataAddress}
use Rattle.undo_journal.specs.Batches.{overlay, look_up, AreSets, begins, runs_from, with_set}
use Rattle.undo_journal.specs.JournalParts.{run_words, first_words, Names, AllNamed}
use Rattle.undo_journal.specs.laws.Runs.{goes, stops, going, begins-first, begins-one}
use Rattle.undo_journal.specs.laws.Waits.{below, same, above, order, joined-below, joined-same, joined-above}
use Rattle.undo_journal.proofs.Waits.{look_up-below, sets-lower}

-- One more set.
module _ (size : ℕ) (new : Waiting) where
  runs-equal : (s : Waiting) (rest : List Waiting) (next : ℕ) → s.at ≡ new.at
      → runs_from next (new ∷ rest) ≡ runs_from next (s ∷ rest)
  runs-equal s rest next is = ap (λ (a : ℕ). begins next a + runs_from (a + 1) rest) (sym is)

  -- it makes one run more, at most
  pub runs-joined : (ps : List Waiting) (least next : ℕ) → AreSets size least ps → next ≤ new.at
      → runs_from next (with_set new ps) ≤ runs_from next ps + 1
  runs-joined [] least next h le = omega (arith, begins-one next new.at)
  runs-joined (s ∷ rest) least next h le = elim (order s.at new.at) [
    | below b lt ↦
        let low : s.at + 1 ≤ new.at = omega (arith, lt) in
        omega (
          arith,
          ap (λ (l : List Waiting). runs_from next l) (joined-below new s rest b),
          runs-joined rest (s.at + 1) (s.at + 1) h.1 low,
        )
    | same b e is ↦
        omega (
          arith,
          ap (λ (l : List Waiting). runs_from next l) (joined-same new s rest b e),
          runs-equal s rest next is,
        )
    | above b e lt ↦
        let made = ap (λ (l : List Waiting). runs_from next l) (joined-above new s rest b e) in
        elim (going next s.at) [
          | goes t same_place p is ↦ absurd (omega (arith, lt, le, same_place))
          | stops t o is ↦ omega (arith, made, is, begins-one next new.at, begins-one (new.at + 1) s.at)
        ]
  ]

  -- none, where it goes on with a run that ends before it
  runs-first : (ps : List Waiting) → AreSets size new.at ps → new.at % PAGE_WORDS ≢ 0
      → runs_from new.at (with_set new ps) ≤ runs_from new.at ps
  runs-first [] h inside = elim (going new.at new.at) [
    | goes t e p is ↦ omega (arith, is)
    | stops t o is ↦ elim o [ inl differs ↦ absurd (differs refl) | inr first ↦ absurd (inside first) ]
  ]
  runs-first (s ∷ rest) h inside = elim (order s.at new.at) [
    | below b lt ↦ absurd (omega (arith, lt, h.0.from))
    | same b e is ↦
        omega (
          arith,
          ap (λ (l : List Waiting). runs_from new.at l) (joined-same new s rest b e),
          runs-equal s rest new.at is,
        )
    | above b e lt ↦
        let made = ap (λ (l : List Waiting). runs_from new.at l) (joined-above new s rest b e) in
        elim (going new.at s.at) [
          | goes t same_place p is ↦ absurd (omega (arith, lt, same_place))
          | stops t o is ↦ elim (going new.at new.at) [
            | goes u f p zero_is ↦ omega (arith, made, is, zero_is, begins-one (new.at + 1) s.at)
            | stops u o zero_is ↦ elim o [ inl differs ↦ absurd (differs refl) | inr first ↦ absurd (inside first) ]
          ]
        ]
  ]

  pub runs-goes_on : (ps : List Waiting) (least next : ℕ) → AreSets size least ps → next ≤ new.at
      → new.at % PAGE_WORDS ≢ 0 → IsSome (look_up (new.at - 1) ps)
      → runs_from next (with_set new ps) ≤ runs_from next ps
  runs-goes_on [] least next h le inside waits = absurd cc
  runs-goes_on (s ∷ rest) least next h le inside waits = elim (order s.at new.at) [
    | below b lt ↦
        let made = ap (λ (l : List Waiting). runs_from next l) (joined-below new s rest b) in
        elim (eqb_tells s.at (new.at - 1)) [
          | inl e ↦
              let follows : s.at + 1 ≡ new.at = omega (arith, e.1, lt) in
              let family : ℕ → Type 0 = λ k. runs_from k (with_set new rest) ≤ runs_from k rest in
              let moved : AreSets size new.at rest = subst (λ (k : ℕ). AreSets size k rest) follows h.1 in
              let after : runs_from (s.at + 1) (with_set new rest) ≤ runs_from (s.at + 1) rest =
              subst family (sym follows) (runs-first rest moved inside) in
              omega (arith, made, after)
          | inr other ↦
              let low : s.at + 1 ≤ new.at = omega (arith, lt) in
              let same_look : look_up (new.at - 1) (s ∷ rest) ≡ look_up (new.at - 1) rest =
              ap (λ (b : Bool). if b then Some s.word else look_up (new.at - 1) rest) other.0 in
              let waits_on : IsSome (look_up (new.at - 1) rest) = subst (λ o. IsSome o) same_look waits in
              omega (arith, made, runs-goes_on rest (s.at + 1) (s.at + 1) h.1 low inside waits_on)
        ]
    | same b e is ↦
        omega (
          arith,
          ap (λ (l : List Waiting). runs_from next l) (joined-same new s rest b e),
          runs-equal s rest next is,
        )
    | above b e lt ↦
        let low : new.at - 1 < s.at = omega (arith, lt) in
        let here : AreSets size s.at (s ∷ rest) = (
          record {
            from = (let le : s.at ≤ s.at = omega arith in le);
            outside = h.0.outside;
            within = h.0.within;
            fits = h.0.fits;
          },
          h.1,
        ) in
        let none : look_up (new.at - 1) (s ∷ rest) ≡ None = look_up-below size (new.at - 1) s.at (s ∷ rest) here low in
        absurd (true≢false (sym waits ∙ ap (λ o. is_some o) none))
  ]

-- The words of the run that goes on at `next`: they are words of successive addresses.
pub run_words-written : (ps : List Waiting) (next : ℕ) (m : List ℕ)
    → overlay ps m ≡ overlay (drop (length (run_words next ps)) ps) (written m next (run_words next ps))
run_words-written [] next m = refl
run_words-written (s ∷ rest) next m = elim (going next s.at) [
  | goes t e p is ↦
      let run : run_words next (s ∷ rest) ≡ s.word ∷ run_words (s.at + 1) rest =
      ap (λ (b : Bool). if b then s.word ∷ run_words (s.at + 1) rest else []) t in
      let family : List ℕ → List ℕ = λ ws. overlay (drop (length ws) (s ∷ rest)) (written m next ws) in
      run_words-written rest (s.at + 1) (slice_set m s.at s.word)
      ∙ ap (λ (a : ℕ). overlay (drop (length (run_words (s.at + 1) rest)) rest)
      (written (slice_set m a s.word) (a + 1) (run_words (s.at + 1) rest))) e
      ∙ sym (ap family run)
  | stops t o is ↦
      let run : run_words next (s ∷ rest) ≡ [] =
      ap (λ (b : Bool). if b then s.word ∷ run_words (s.at + 1) rest else []) t in
      let family : List ℕ → List ℕ = λ ws. overlay (drop (length ws) (s ∷ rest)) (written m next ws) in
      sym (ap family run)
]

-- they lie in one page
pub run-inside : (ps : List Waiting) (a : ℕ) → a % PAGE_WORDS + 1 + length (run_words (a + 1) ps) ≤ PAGE_WORDS
run-inside [] a = omega arith
run-inside (s ∷ rest) a = elim (going (a + 1) s.at) [
  | goes t e p is ↦
      let run = ap (λ (b : Bool). length (if b then s.word ∷ run_words (s.at + 1) rest else [])) t in
      let more = run-inside rest s.at in
      let step : s.at % PAGE_WORDS ≡ a % PAGE_WORDS + 1 = omega (arith, e, p) in
      omega (arith, run, more, step)
  | stops t o is ↦
      let run = ap (λ (b : Bool). length (if b then s.word ∷ run_words (s.at + 1) rest else [])) t in
      omega (arith, run)
]

-- the sets after them make one run less, with the one that they are
pub run-runs : (ps : List Waiting) (next : ℕ) → runs_from 0 (drop (length (run_words next ps)) ps) ≡ runs_from next ps
run-runs [] next = refl
run-runs (s ∷ rest) next = elim (going next s.at) [
  | goes t e p is ↦
      let run = ap (λ (b : Bool). runs_from 0
      (drop (length (if b then s.word ∷ run_words (s.at + 1) rest else [])) (s ∷ rest))) t in
      omega (arith, run, run-runs rest (s.at + 1), is)
  | stops t o is ↦
      let run = ap (λ (b : Bool). runs_from 0
      (drop (length (if b then s.word ∷ run_words (s.at + 1) rest else [])) (s ∷ rest))) t in
      omega (arith, run, is, begins-first s.at)
]

-- what is left of sets
pub sets-drop : (size : ℕ) (n : ℕ) (ps : List Waiting) (least : ℕ) → AreSets size least ps → AreSets size 0 (drop n ps)
sets-drop size zero ps least h = sets-lower size 0 least ps (let le : 0 ≤ least = omega arith in le) h
sets-drop size (suc n) [] least h = tt
sets-drop size (suc n) (s ∷ rest) least h = sets-drop size n rest (s.at + 1) h.1

pub named-drop : (n : ℕ) (ps : List Waiting) (pairs : List Pair) → AllNamed pairs ps → AllNamed pairs (drop n ps)
named-drop zero ps pairs h = h
named-drop (suc n) [] pairs h = tt
named-drop (suc n) (s ∷ rest) pairs h = named-drop n rest pairs h.1

-- each word of a run is a data word whose address a pair names
pub record IsSaved (m : List ℕ) (pairs : List Pair) (a : ℕ) : Type 0 where
  pub place : IsDataAddress m a
  pub named : Names pairs a

saved-turn : (next n : ℕ) (m : List ℕ) (pairs : List Pair) → IsSaved m pairs next
    → ((k : ℕ) → k < n → IsSaved m pairs (next + 1 + k)) → (k : ℕ) → k < suc n → IsSaved m pairs (next + k)
saved-turn next n m pairs here rest zero lt =
    let z : next ≡ next + zero = omega arith in
    let family : ℕ → Type 0 = λ a. IsSaved m pairs a in
    subst family z here
saved-turn next n m pairs here rest (suc k) lt =
    let place : next + 1 + k ≡ next + suc k = omega arith in
    let family : ℕ → Type 0 = λ a. IsSaved m pairs a in
    let low : k < n = omega (arith, lt) in
    subst family place (rest k low)

-- the first of the sets
set-saved : (s : Waiting) (rest : List Waiting) (least : ℕ) (m : List ℕ) (pairs : List Pair)
    → AreSets (length m) least (s ∷ rest) → AllNamed pairs (s ∷ rest) → IsSaved m pairs s.at
set-saved s rest least m pairs h named = record {
  place = (h.0.outside, h.0.within);
  named = named.0;
}

pub run-saved : (ps : List Waiting) (next least : ℕ) (m : List ℕ) (pairs : List Pair) → AreSets (length m) least ps
    → AllNamed pairs ps → (k : ℕ) → k < length (run_words next ps) → IsSaved m pairs (next + k)
run-saved [] next least m pairs h named k lt = absurd (omega arith)
run-saved (s ∷ rest) next least m pairs h named k lt = elim (going next s.at) [
  | goes t e p is ↦
      let run = ap (λ (b : Bool). length (if b then s.word ∷ run_words (s.at + 1) rest else [])) t in
      let family : ℕ → Type 0 = λ a. IsSaved m pairs (a + k) in
      subst family e
      (saved-turn s.at (length (run_words (s.at + 1) rest)) m pairs (set-saved s rest least m pairs h named)
      (run-saved rest (s.at + 1) (s.at + 1) m pairs h.1 named.1) k
      (let l : k < suc (length (run_words (s.at + 1) rest)) = omega (arith, run, lt) in l))
  | stops t o is ↦
      let run = ap (λ (b : Bool). length (if b then s.word ∷ run_words (s.at + 1) rest else [])) t in
      absurd (omega (arith, run, lt))
]

-- the same of the first run
pub first-saved : (s : Waiting) (rest : List Waiting) (least : ℕ) (m : List ℕ) (pairs : List Pair)
    → AreSets (length m) least (s ∷ rest) → AllNamed pairs (s ∷ rest) → (k : ℕ) → k < length (first_words (s ∷ rest))
    → IsSaved m pairs (s.at + k)
first-saved s rest least m pairs h named k lt =
    saved-turn s.at (length (run_words (s.at + 1) rest)) m pairs (set-saved s rest least m pairs h named)
    (run-saved rest (s.at + 1) (s.at + 1) m pairs h.1 named.1) k lt

-- The first run of sets that are not none, whose first address is a.
run-short : (ps : List Waiting) (next : ℕ) → length (run_words next ps) ≤ length ps
run-short [] next = omega arith
run-short (s ∷ rest) next = elim (going next s.at) [
  | goes t e p is ↦
      let run = ap (λ (b : Bool). length (if b then s.word ∷ run_words (s.at + 1) rest else [])) t in
      omega (arith, run, run-short rest (s.at + 1))
  | stops t o is ↦
      let run = ap (λ (b : Bool). length (if b then s.word ∷ run_words (s.at + 1) rest else [])) t in
      omega (arith, run)
]

pub turn-few : (ps : List Waiting) → length (first_words ps) ≤ length ps
turn-few [] = omega arith
turn-few (s ∷ rest) = omega (arith, run-short rest (s.at + 1))

pub turn-inside : (ps : List Waiting) (d : Waiting) → 0 < length ps
    → (get_or ps 0 d).at % PAGE_WORDS + length (first_words ps) ≤ PAGE_WORDS
turn-inside [] d some = absurd (omega arith)
turn-inside (s ∷ rest) d some = omega (arith, run-inside rest s.at)

pub turn-written : (ps : List Waiting) (d : Waiting) (m : List ℕ) → 0 < length ps
    → overlay (drop (length (first_words ps)) ps) (written m (get_or ps 0 d).at (first_words ps)) ≡ overlay ps m
turn-written [] d m some = absurd (omega arith)
turn-written (s ∷ rest) d m some = sym (run_words-written rest (s.at + 1) (slice_set m s.at s.word))

pub turn-runs : (ps : List Waiting) → 0 < length ps
    → runs_from 0 (drop (length (first_words ps)) ps) + 1 ≡ runs_from 0 ps
turn-runs [] some = absurd (omega arith)
turn-runs (s ∷ rest) some = omega (arith, run-runs rest (s.at + 1), begins-first s.at)

pub turn-saved : (ps : List Waiting) (d : Waiting) (least : ℕ) (m : List ℕ) (pairs : List Pair) → 0 < length ps
    → AreSets (length m) least ps → AllNamed pairs ps → (k : ℕ) → k < length (first_words ps)
    → IsSaved m pairs ((get_or ps 0 d).at + k)
turn-saved [] d least m pairs some h named = absurd (omega arith)
turn-saved (s ∷ rest) d least m pairs some h named = first-saved s rest least m pairs h named
