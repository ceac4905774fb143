-- The runs of sets, with one more of them that stands alone: none of its address waits yet, nor of the one behind it.
use Rattle.std.proofs.Common.{◌≡◌, ◌≢◌, ◌==◌, ◌⊎◌, ◌<◌, ◌≤◌, ◌+◌, ◌-◌, ◌%◌, ◌&&◌, not, ℕ, Bool, true, false, List}
use Rattle.std.proofs.Common.{[], ◌∷◌}
use Rattle.std.proofs.Common.{refl, sym, ◌∙◌, ap, subst, inl, inr, arith, None, IsSome, is_some, Option, true≢false}
use Rattle.std.specs.Prelude.{if◌then◌else◌}
use Rattle.std.proofs.lemmas.Bool.Decides.{eqb_tells}
use Rattle.nvm_board.specs.declared.board.TheConstants.{PAGE_WORDS}
use Rattle.undo_journal.specs.declared.batch.Waiting.{Waiting}
use Rattle.undo_journal.specs.Batches.{look_up, begins, runs_from, with_set}
use Rattle.undo_journal.specs.laws.Waits.{below, same, above, order, joined-below, joined-above, AreAscending}
use Rattle.undo_journal.specs.laws.Waits.{look_up-past, not-first, none-behind, none-low}

-- a word goes on with a run, or begins one
pub data Going (next a : ℕ) : Type 0 where
  goes : ((a == next) && not (a % PAGE_WORDS == 0)) ≡ true → a ≡ next → a % PAGE_WORDS ≢ 0
      → begins next a ≡ 0 → Going next a
  stops : ((a == next) && not (a % PAGE_WORDS == 0)) ≡ false → (a ≢ next) ⊎ (a % PAGE_WORDS ≡ 0) → begins next a ≡ 1
      → Going next a

pub going : (next a : ℕ) → Going next a
going next a = elim (eqb_tells a next) [
  | inl e ↦ elim (eqb_tells (a % PAGE_WORDS) 0) [
    | inl first ↦
        let test : ((a == next) && not (a % PAGE_WORDS == 0)) ≡ false =
        ap (λ (b : Bool). b && not (a % PAGE_WORDS == 0)) e.0 ∙ ap not first.0 in
        stops test (inr first.1) (ap (λ (b : Bool). if b then 0 else 1) test)
    | inr other ↦
        let test : ((a == next) && not (a % PAGE_WORDS == 0)) ≡ true =
        ap (λ (b : Bool). b && not (a % PAGE_WORDS == 0)) e.0 ∙ ap not other.0 in
        goes test e.1 other.1 (ap (λ (b : Bool). if b then 0 else 1) test)
  ]
  | inr other ↦
      let test : ((a == next) && not (a % PAGE_WORDS == 0)) ≡ false =
      ap (λ (b : Bool). b && not (a % PAGE_WORDS == 0)) other.0 in
      stops test (inl other.1) (ap (λ (b : Bool). if b then 0 else 1) test)
]

pub begins-one : (next a : ℕ) → begins next a ≤ 1
begins-one next a = elim (going next a) [
  | goes t e p is ↦ omega (arith, is)
  | stops t e is ↦ omega (arith, is)
]

pub begins-first : (a : ℕ) → begins 0 a ≡ 1
begins-first a = elim (going 0 a) [
  | goes t e p is ↦ absurd (p (let z : a % PAGE_WORDS ≡ 0 = omega (arith, e) in z))
  | stops t o is ↦ is
]

begins-away : (next a : ℕ) → a ≢ next → begins next a ≡ 1
begins-away next a other = elim (going next a) [
  | goes t e p is ↦ absurd (other e)
  | stops t o is ↦ is
]

begins-none : (a : ℕ) → a % PAGE_WORDS ≢ 0 → begins a a ≡ 0
begins-none a inside = elim (going a a) [
  | goes t e p is ↦ is
  | stops t o is ↦ elim o [ inl differs ↦ absurd (differs refl) | inr first ↦ absurd (inside first) ]
]

-- One more set.
module _ (new : Waiting) where
  -- it goes on with the run that ends before all of them
  runs-after : (ps : List Waiting) → AreAscending new.at ps → look_up new.at ps ≡ None → look_up (new.at + 1) ps ≡ None
      → new.at % PAGE_WORDS ≢ 0 → runs_from new.at (with_set new ps) ≡ runs_from new.at ps
  runs-after [] h free behind inside = omega (arith, begins-none new.at inside)
  runs-after (s ∷ rest) h free behind inside = elim (order s.at new.at) [
    | below b lt ↦ absurd (omega (arith, lt, h.0))
    | same b e is ↦ absurd (not-first s rest new.at free is)
    | above b e lt ↦
        let made = ap (λ (l : List Waiting). runs_from new.at l) (joined-above new s rest b e) in
        let none = begins-none new.at inside in
        let next = begins-away (new.at + 1) s.at (not-first s rest (new.at + 1) behind) in
        let first = begins-away new.at s.at (let other : s.at ≢ new.at = omega (arith, lt) in other) in
        omega (arith, made, none, next, first)
  ]

  -- it goes on with a run that ends before it: there are as many runs
  pub runs-same : (ps : List Waiting) (next : ℕ) → AreAscending next ps → next ≤ new.at → look_up new.at ps ≡ None
      → look_up (new.at + 1) ps ≡ None → new.at % PAGE_WORDS ≢ 0 → IsSome (look_up (new.at - 1) ps)
      → runs_from next (with_set new ps) ≡ runs_from next ps
  runs-same [] next h le free behind inside waits = absurd cc
  runs-same (s ∷ rest) next h le free behind inside waits = elim (order s.at new.at) [
    | below b lt ↦
        let made = ap (λ (l : List Waiting). runs_from next l) (joined-below new s rest b) in
        let free_on = none-behind s rest new.at free in
        let behind_on = none-behind s rest (new.at + 1) behind in
        elim (eqb_tells s.at (new.at - 1)) [
          | inl e ↦
              let follows : s.at + 1 ≡ new.at = omega (arith, e.1, lt) in
              let family : ℕ → Type 0 = λ k. runs_from k (with_set new rest) ≡ runs_from k rest in
              let moved : AreAscending new.at rest = subst (λ (k : ℕ). AreAscending k rest) follows h.1 in
              let after : runs_from (s.at + 1) (with_set new rest) ≡ runs_from (s.at + 1) rest =
              subst family (sym follows) (runs-after rest moved free_on behind_on inside) in
              omega (arith, made, after)
          | inr other ↦
              let low : s.at + 1 ≤ new.at = omega (arith, lt) in
              let waits_on : IsSome (look_up (new.at - 1) rest) =
              subst (λ (o : Option ℕ). IsSome o) (look_up-past s rest (new.at - 1) other.1) waits in
              omega (arith, made, runs-same rest (s.at + 1) h.1 low free_on behind_on inside waits_on)
        ]
    | same b e is ↦ absurd (not-first s rest new.at free is)
    | above b e lt ↦
        let low : new.at - 1 < s.at = omega (arith, lt) in
        let here : AreAscending s.at (s ∷ rest) = ((let le : s.at ≤ s.at = omega arith in le), h.1) in
        let none : look_up (new.at - 1) (s ∷ rest) ≡ None = none-low (new.at - 1) s.at (s ∷ rest) here low in
        absurd (true≢false (sym waits ∙ ap (λ (o : Option ℕ). is_some o) none))
  ]

  first-alone : (next : ℕ) → (new.at % PAGE_WORDS ≡ 0) ⊎ (next ≢ new.at) → begins next new.at ≡ 1
  first-alone next apart = elim (going next new.at) [
    | goes t e p is ↦ elim apart [ inl first ↦ absurd (p first) | inr other ↦ absurd (other (sym e)) ]
    | stops t o is ↦ is
  ]

  -- it begins a run: the word before it, in its page, does not wait
  pub runs-one_more : (ps : List Waiting) (next : ℕ) → AreAscending next ps → next ≤ new.at → look_up new.at ps ≡ None
      → look_up (new.at + 1) ps ≡ None → (new.at % PAGE_WORDS ≡ 0)
      ⊎ ((next ≢ new.at) × (look_up (new.at - 1) ps ≡ None)) → runs_from next (with_set new ps) ≡ runs_from next ps + 1
  runs-one_more [] next h le free behind apart =
      let alone = first-alone next (elim apart [ inl first ↦ inl first | inr other ↦ inr other.0 ]) in
      omega (arith, alone)
  runs-one_more (s ∷ rest) next h le free behind apart = elim (order s.at new.at) [
    | below b lt ↦
        let made = ap (λ (l : List Waiting). runs_from next l) (joined-below new s rest b) in
        let low : s.at + 1 ≤ new.at = omega (arith, lt) in
        let still : (new.at % PAGE_WORDS ≡ 0) ⊎ ((s.at + 1 ≢ new.at) × (look_up (new.at - 1) rest ≡ None)) =
        elim apart [
          | inl first ↦ inl first
          | inr other ↦
              let away : s.at ≢ new.at - 1 = not-first s rest (new.at - 1) other.1 in
              inr ((λ e. away (omega (arith, e))), none-behind s rest (new.at - 1) other.1)
        ] in
        let more = runs-one_more rest (s.at + 1) h.1 low (none-behind s rest new.at free)
        (none-behind s rest (new.at + 1) behind) still in
        omega (arith, made, more)
    | same b e is ↦ absurd (not-first s rest new.at free is)
    | above b e lt ↦
        let made = ap (λ (l : List Waiting). runs_from next l) (joined-above new s rest b e) in
        let alone = first-alone next (elim apart [ inl first ↦ inl first | inr other ↦ inr other.0 ]) in
        let after = begins-away (new.at + 1) s.at (not-first s rest (new.at + 1) behind) in
        let before = begins-away next s.at (let other : s.at ≢ next = omega (arith, lt, le) in other) in
        omega (arith, made, alone, after, before)
  ]
