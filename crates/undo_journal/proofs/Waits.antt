-- The sets that wait: one more, and what they make of the words.
use Rattle.std.proofs.Common.{◌≡◌, ◌≢◌, ◌<◌, ◌≤◌, ◌+◌, ◌^◌, ℕ, zero, suc, Bool, List}
use Rattle.std.proofs.Common.{[], ◌∷◌, ◌++◌, length, get_or, slice_index, slice_set, refl, sym, ◌∙◌, ap, subst}
use Rattle.std.proofs.Common.{inl, inr, arith, Some, None, get_or-set_same, get_or-set_other, insert}
use Rattle.std.specs.Prelude.{if◌then◌else◌}
use Rattle.std.proofs.Math.ListN.{length-set}
use Rattle.std.proofs.lemmas.Bool.Decides.{eqb_tells}
use Rattle.std.proofs.lemmas.List.Elements.{All-set}
use Rattle.nvm_board.specs.Facts.{AreWords}
use Rattle.undo_journal.specs.declared.batch.Waiting.{Waiting}
use Rattle.undo_journal.specs.Batches.{overlay, look_up, IsSet, AreSets, with_set}
use Rattle.undo_journal.specs.JournalParts.{before, IsLastBelow}
use Rattle.undo_journal.specs.laws.Waits.{below, same, above, order, joined-below, joined-same, joined-above}
use Rattle.undo_journal.specs.laws.Waits.{AreAscending}
use Rattle.std.specs.List.{refill}
use Rattle.std.proofs.lemmas.Grind.{common_steps}

-- two words set, in either order
pub set-set_other : (m : List ℕ) (a b v w : ℕ) → a ≢ b
    → slice_set (slice_set m a v) b w ≡ slice_set (slice_set m b w) a v
set-set_other [] a b v w other = refl
set-set_other (x ∷ m) zero zero v w other = absurd (other refl)
set-set_other (x ∷ m) zero (suc b) v w other = refl
set-set_other (x ∷ m) (suc a) zero v w other = refl
set-set_other (x ∷ m) (suc a) (suc b) v w other =
    ap (λ (l : List ℕ). x ∷ l) (set-set_other m a b v w (λ same. other (ap suc same)))

-- a word set twice
pub set-set_same : (m : List ℕ) (a v w : ℕ) → slice_set (slice_set m a v) a w ≡ slice_set m a w
set-set_same [] a v w = refl
set-set_same (x ∷ m) zero v w = refl
set-set_same (x ∷ m) (suc a) v w = ap (λ (l : List ℕ). x ∷ l) (set-set_same m a v w)

-- sets of addresses from this one on are of addresses from a smaller one on
pub sets-lower : (size : ℕ) (k l : ℕ) (ps : List Waiting) → k ≤ l → AreSets size l ps → AreSets size k ps
sets-lower size k l [] le h = tt
sets-lower size k l (s ∷ rest) le h = (
  record {
    from = (let f : k ≤ s.at = omega (arith, le, h.0.from) in f);
    outside = h.0.outside;
    within = h.0.within;
    fits = h.0.fits;
  },
  h.1,
)

-- a word below those that wait
pub overlay-below : (size : ℕ) (ps : List Waiting) (m : List ℕ) (least a : ℕ) → AreSets size least ps → a < least
    → slice_index (overlay ps m) a ≡ slice_index m a
overlay-below size [] m least a h lt = refl
overlay-below size (s ∷ rest) m least a h lt =
    let far : a < s.at + 1 = omega (arith, lt, h.0.from) in
    let other : a ≢ s.at = omega (arith, lt, h.0.from) in
    overlay-below size rest (slice_set m s.at s.word) (s.at + 1) a h.1 far ∙ get_or-set_other m s.at a s.word 0 other

-- a word set below them
pub overlay-set : (size : ℕ) (ps : List Waiting) (m : List ℕ) (a w : ℕ) → AreSets size (a + 1) ps
    → overlay ps (slice_set m a w) ≡ slice_set (overlay ps m) a w
overlay-set size [] m a w h = refl
overlay-set size (s ∷ rest) m a w h =
    let other : a ≢ s.at = omega (arith, h.0.from) in
    let le : a + 1 ≤ s.at + 1 = omega (arith, h.0.from) in
    ap (λ (l : List ℕ). overlay rest l) (set-set_other m a s.at w s.word other)
    ∙ overlay-set size rest (slice_set m s.at s.word) a w (sets-lower size (a + 1) (s.at + 1) rest le h.1)

-- words of 32 bits
pub overlay-fits : (size : ℕ) (ps : List Waiting) (m : List ℕ) (least : ℕ) → AreSets size least ps → AreWords m
    → AreWords (overlay ps m)
overlay-fits size [] m least h fit = fit
overlay-fits size (s ∷ rest) m least h fit =
    overlay-fits size rest (slice_set m s.at s.word) (s.at + 1) h.1
    (All-set (λ w. w < 2 ^ 32) m s.at s.word h.0.fits fit)

-- the word that waits is the one that is read
pub look_up-found : (size : ℕ) (a w : ℕ) (ps : List Waiting) (m : List ℕ) (least : ℕ) → AreSets size least ps
    → a < length m → look_up a ps ≡ Some w → slice_index (overlay ps m) a ≡ w
look_up-found size a w [] m least h lt found = absurd cc
look_up-found size a w (s ∷ rest) m least h lt found = elim (eqb_tells s.at a) [
  | inl e ↦
      let some : Some s.word ≡ Some w =
      sym (ap (λ (b : Bool). if b then Some s.word else look_up a rest) e.0) ∙ found in
      let word : s.word ≡ w = cc in
      let low : a < s.at + 1 = omega (arith, e.1) in
      let within : s.at < length m = omega (arith, e.1, lt) in
      overlay-below size rest (slice_set m s.at s.word) (s.at + 1) a h.1 low
      ∙ ap (λ (j : ℕ). slice_index (slice_set m s.at s.word) j) (sym e.1)
      ∙ get_or-set_same m s.at s.word 0 within ∙ word
  | inr other ↦
      let next : look_up a rest ≡ Some w =
      sym (ap (λ (b : Bool). if b then Some s.word else look_up a rest) other.0) ∙ found in
      let within : a < length (slice_set m s.at s.word) = omega (arith, lt, length-set m s.at s.word) in
      look_up-found size a w rest (slice_set m s.at s.word) (s.at + 1) h.1 within next
]

pub look_up-none : (a : ℕ) (ps : List Waiting) (m : List ℕ) → look_up a ps ≡ None
    → slice_index (overlay ps m) a ≡ slice_index m a
look_up-none a [] m none = refl
look_up-none a (s ∷ rest) m none = elim (eqb_tells s.at a) [
  | inl e ↦
      let some : Some s.word ≡ None =
      sym (ap (λ (b : Bool). if b then Some s.word else look_up a rest) e.0) ∙ none in
      absurd cc
  | inr other ↦
      let next : look_up a rest ≡ None =
      sym (ap (λ (b : Bool). if b then Some s.word else look_up a rest) other.0) ∙ none in
      let differs : a ≢ s.at = λ e. other.1 (sym e) in
      look_up-none a rest (slice_set m s.at s.word) next ∙ get_or-set_other m s.at a s.word 0 differs
]

-- nothing waits below the least address
pub look_up-below : (size : ℕ) (a least : ℕ) (ps : List Waiting) → AreSets size least ps
    → a < least → look_up a ps ≡ None
look_up-below size a least [] h lt = refl
look_up-below size a least (s ∷ rest) h lt =
    let other : s.at ≢ a = omega (arith, lt, h.0.from) in
    let low : a < s.at + 1 = omega (arith, lt, h.0.from) in
    elim (eqb_tells s.at a) [
      | inl e ↦ absurd (other e.1)
      | inr differs ↦ ap (λ (b : Bool). if b then Some s.word else look_up a rest) differs.0
          ∙ look_up-below size a (s.at + 1) rest h.1 low
    ]

-- One more set among those that wait.
module _ (size : ℕ) (new : Waiting) where
  -- its word is the one that is read
  pub overlay-joined : (ps : List Waiting) (m : List ℕ) (least : ℕ) → AreSets size least ps
      → overlay (with_set new ps) m ≡ slice_set (overlay ps m) new.at new.word
  overlay-joined [] m least h = refl
  overlay-joined (s ∷ rest) m least h = elim (order s.at new.at) [
    | below b lt ↦ ap (λ (l : List Waiting). overlay l m) (joined-below new s rest b)
        ∙ overlay-joined rest (slice_set m s.at s.word) (s.at + 1) h.1
    | same b e is ↦
        let moved : AreSets size (new.at + 1) rest = let family : ℕ → Type 0 =
        λ k. AreSets size (k + 1) rest in subst family is h.1 in
        ap (λ (l : List Waiting). overlay l m) (joined-same new s rest b e)
        ∙ ap (λ (l : List ℕ). overlay rest l) (sym (ap (λ (j : ℕ). slice_set (slice_set m j s.word) new.at new.word) is
        ∙ set-set_same m new.at s.word new.word))
        ∙ overlay-set size rest (slice_set m s.at s.word) new.at new.word moved
    | above b e lt ↦
        let le : new.at + 1 ≤ s.at = omega (arith, lt) in
        ap (λ (l : List Waiting). overlay l m) (joined-above new s rest b e)
        ∙ overlay-set size (s ∷ rest) m new.at new.word (
          record {
            from = le;
            outside = h.0.outside;
            within = h.0.within;
            fits = h.0.fits;
          },
          h.1,
        )
  ]

  pub sets-joined : (ps : List Waiting) (least : ℕ) → AreSets size least ps → IsSet size least new
      → AreSets size least (with_set new ps)
  sets-joined [] least h is_set = (is_set, tt)
  sets-joined (s ∷ rest) least h is_set = elim (order s.at new.at) [
    | below b lt ↦
        let from : s.at + 1 ≤ new.at = omega (arith, lt) in
        subst (λ (l : List Waiting). AreSets size least l) (sym (joined-below new s rest b)) (
          h.0,
          sets-joined rest (s.at + 1) h.1
              (record { from = from; outside = is_set.outside; within = is_set.within; fits = is_set.fits }),
        )
    | same b e is ↦
        let moved : AreSets size (new.at + 1) rest = let family : ℕ → Type 0 =
        λ k. AreSets size (k + 1) rest in subst family is h.1 in
        subst (λ (l : List Waiting). AreSets size least l) (sym (joined-same new s rest b e)) (is_set, moved)
    | above b e lt ↦
        let from : new.at + 1 ≤ s.at = omega (arith, lt) in
        subst (λ (l : List Waiting). AreSets size least l) (sym (joined-above new s rest b e)) (
          is_set,
          (
            record {
              from = from;
              outside = h.0.outside;
              within = h.0.within;
              fits = h.0.fits;
            },
            h.1,
          ),
        )
  ]

-- How many they are then.
module _ (new : Waiting) where
  -- it takes one place, or none
  pub length-joined : (ps : List Waiting) → length ps ≤ length (with_set new ps)
  length-joined [] = omega arith
  length-joined (s ∷ rest) = elim (order s.at new.at) [
    | below b lt ↦ omega (arith, ap (λ (l : List Waiting). length l) (joined-below new s rest b), length-joined rest)
    | same b e is ↦ omega (arith, ap (λ (l : List Waiting). length l) (joined-same new s rest b e))
    | above b e lt ↦ omega (arith, ap (λ (l : List Waiting). length l) (joined-above new s rest b e))
  ]

  pub joined-length : (ps : List Waiting) → length (with_set new ps) ≤ length ps + 1
  joined-length [] = omega arith
  joined-length (s ∷ rest) = elim (order s.at new.at) [
    | below b lt ↦ omega (arith, ap (λ (l : List Waiting). length l) (joined-below new s rest b), joined-length rest)
    | same b e is ↦ omega (arith, ap (λ (l : List Waiting). length l) (joined-same new s rest b e))
    | above b e lt ↦ omega (arith, ap (λ (l : List Waiting). length l) (joined-above new s rest b e))
  ]

-- the place of a set by the number of those of smaller addresses: it is taken by a set of its address
pub replaced-joined : (new : Waiting) (ps : List Waiting) (d : Waiting) → before new.at ps < length ps
    → (get_or ps (before new.at ps) d).at ≡ new.at → slice_set ps (before new.at ps) new ≡ with_set new ps
replaced-joined new [] d lt is = absurd (omega arith)
replaced-joined new (s ∷ rest) d lt is = elim (order s.at new.at) [
  | below b l ↦
      let place : before new.at (s ∷ rest) ≡ suc (before new.at rest) =
      ap (λ (b : Bool). if b then suc (before new.at rest) else 0) b in
      let low : before new.at rest < length rest = omega (arith, place, lt) in
      let there : (get_or rest (before new.at rest) d).at ≡ new.at =
      sym (ap (λ (i : ℕ). (get_or (s ∷ rest) i d).at) place) ∙ is in
      ap (λ (i : ℕ). slice_set (s ∷ rest) i new) place
      ∙ ap (λ (l : List Waiting). s ∷ l) (replaced-joined new rest d low there)
      ∙ sym (joined-below new s rest b)
  | same b e i ↦
      let place : before new.at (s ∷ rest) ≡ 0 = ap (λ (b : Bool). if b then suc (before new.at rest) else 0) b in
      ap (λ (i : ℕ). slice_set (s ∷ rest) i new) place ∙ sym (joined-same new s rest b e)
  | above b e l ↦
      let place : before new.at (s ∷ rest) ≡ 0 = ap (λ (b : Bool). if b then suc (before new.at rest) else 0) b in
      let there : s.at ≡ new.at = sym (ap (λ (i : ℕ). (get_or (s ∷ rest) i d).at) place) ∙ is in
      absurd (omega (arith, there, l))
]

-- or not
pub inserted-joined : (new : Waiting) (ps : List Waiting) (d : Waiting)
    → (before new.at ps < length ps → (get_or ps (before new.at ps) d).at ≡ new.at → ⊥)
    → insert ps (before new.at ps) new ≡ with_set new ps
inserted-joined new [] d free = refl
inserted-joined new (s ∷ rest) d free = elim (order s.at new.at) [
  | below b l ↦
      let place : before new.at (s ∷ rest) ≡ suc (before new.at rest) =
      ap (λ (b : Bool). if b then suc (before new.at rest) else 0) b in
      ap (λ (i : ℕ). insert (s ∷ rest) i new) place
      ∙ ap (λ (l : List Waiting). s ∷ l) (inserted-joined new rest d (λ lt is.
      let low : before new.at (s ∷ rest) < suc (length rest) = omega (arith, place, lt) in
      free low (ap (λ (i : ℕ). (get_or (s ∷ rest) i d).at) place ∙ is)))
      ∙ sym (joined-below new s rest b)
  | same b e i ↦
      let place : before new.at (s ∷ rest) ≡ 0 = ap (λ (b : Bool). if b then suc (before new.at rest) else 0) b in
      let low : before new.at (s ∷ rest) < suc (length rest) = omega (arith, place) in
      absurd (free low (ap (λ (i : ℕ). (get_or (s ∷ rest) i d).at) place ∙ i))
  | above b e l ↦
      let place : before new.at (s ∷ rest) ≡ 0 = ap (λ (b : Bool). if b then suc (before new.at rest) else 0) b in
      ap (λ (i : ℕ). insert (s ∷ rest) i new) place ∙ sym (joined-above new s rest b e)
]

pub before-length : (a : ℕ) (ps : List Waiting) → before a ps ≤ length ps
before-length a [] = omega arith
before-length a (s ∷ rest) = elim (order s.at a) [
  | below b l ↦ omega (arith, ap (λ (b : Bool). if b then suc (before a rest) else 0) b, before-length a rest)
  | same b e i ↦ omega (arith, ap (λ (b : Bool). if b then suc (before a rest) else 0) b)
  | above b e l ↦ omega (arith, ap (λ (b : Bool). if b then suc (before a rest) else 0) b)
]

-- a set written through a slice
pub refill-set : (xs ys : List Waiting) (i : ℕ) (a : Waiting) → ys ≡ xs
    → refill (length xs) xs (slice_set ys i a) ≡ slice_set xs i a
refill-set xs ys i a alike =
    ap (λ (l : List Waiting). refill (length xs) xs (slice_set l i a)) alike ∙ refilled
  where
    refilled : refill (length xs) xs (slice_set xs i a) ≡ slice_set xs i a
    refilled = grind (arith, common_steps)

-- sets of ascending addresses, of which the last one is below an address, are all below it
first-below : (s : Waiting) (rest : List Waiting) (a : ℕ) → AreAscending (s.at + 1) rest → IsLastBelow a (s ∷ rest)
    → s.at < a
first-below s [] a up last = last 0 (omega arith)
first-below s (t ∷ rest) a up last =
    let low : t.at < a = first-below t rest a up.1
    (λ k is. last (suc k) (let more : suc k + 1 ≡ length (s ∷ t ∷ rest) = omega (arith, is) in more)) in
    omega (arith, low, up.0)

-- a set of an address above the last one goes behind all
pub joined-behind : (new : Waiting) (ps : List Waiting) (least : ℕ) → AreAscending least ps → IsLastBelow new.at ps
    → with_set new ps ≡ ps ++ new ∷ []
joined-behind new [] least up last = refl
joined-behind new (s ∷ rest) least up last =
    let low = first-below s rest new.at up.1 last in
    elim (order s.at new.at) [
      | below b lt ↦ joined-below new s rest b ∙ ap (λ (l : List Waiting). s
          ∷ l) (joined-behind new rest (s.at + 1) up.1
          (λ k is. last (suc k) (let more : suc k + 1 ≡ length (s ∷ rest) = omega (arith, is) in more)))
      | same b e is ↦ absurd (omega (arith, low, is))
      | above b e lt ↦ absurd (omega (arith, low, lt))
    ]

-- sets ascend
pub sets-ascend : (size least : ℕ) (ps : List Waiting) → AreSets size least ps → AreAscending least ps
sets-ascend size least [] h = tt
sets-ascend size least (s ∷ rest) h = (h.0.from, sets-ascend size (s.at + 1) rest h.1)
