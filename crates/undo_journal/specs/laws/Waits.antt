-- One more set among those that wait: where it stands, what waits then, and how many they are.
use Rattle.std.proofs.Common.{◌≡◌, ◌≢◌, ◌==◌, ◌<◌, ◌≤◌, ◌+◌, ℕ, Bool, true, false, List, [], ◌∷◌, length, refl}
use Rattle.std.proofs.Common.{sym, ◌∙◌}
use Rattle.std.proofs.Common.{ap, subst, inl, inr, arith, suc, nat_lt, Some, None, Option, is_some, true≢false}
use Rattle.std.specs.Prelude.{if◌then◌else◌}
use Rattle.std.proofs.lemmas.Bool.Decides.{eqb_tells, leb_tells}
use Rattle.undo_journal.specs.declared.batch.Waiting.{Waiting}
use Rattle.undo_journal.specs.Batches.{look_up, with_set}

-- an address below another, the same, or above it
pub data Order (x a : ℕ) : Type 0 where
  below : nat_lt x a ≡ true → x < a → Order x a
  same : nat_lt x a ≡ false → (x == a) ≡ true → x ≡ a → Order x a
  above : nat_lt x a ≡ false → (x == a) ≡ false → a < x → Order x a

pub order : (x a : ℕ) → Order x a
order x a = elim (leb_tells (suc x) a) [
  | inl lt ↦ below lt.0 (let l : x < a = omega (arith, lt.1) in l)
  | inr ge ↦ elim (eqb_tells x a) [
    | inl e ↦ same ge.0 e.0 e.1
    | inr other ↦ above ge.0 other.0 (let differs : x ≢ a = other.1 in let l : a < x = omega (arith, ge.1) in l)
  ]
]

-- addresses that ascend, from this one on
abbrev pub AreAscending : ℕ → List Waiting → Type 0
AreAscending least [] = Unit {0}
AreAscending least (s ∷ rest) = (least ≤ s.at) × AreAscending (s.at + 1) rest

-- what waits first is found, or is passed over
pub look_up-here : (s : Waiting) (rest : List Waiting) (a : ℕ) → s.at ≡ a → look_up a (s ∷ rest) ≡ Some s.word
look_up-here s rest a is = elim (eqb_tells s.at a) [
  | inl e ↦ ap (λ (b : Bool). if b then Some s.word else look_up a rest) e.0
  | inr other ↦ absurd (other.1 is)
]

pub look_up-past : (s : Waiting) (rest : List Waiting) (a : ℕ) → s.at ≢ a → look_up a (s ∷ rest) ≡ look_up a rest
look_up-past s rest a other = elim (eqb_tells s.at a) [
  | inl e ↦ absurd (other e.1)
  | inr differs ↦ ap (λ (b : Bool). if b then Some s.word else look_up a rest) differs.0
]

-- what does not wait is not first
pub not-first : (s : Waiting) (rest : List Waiting) (a : ℕ) → look_up a (s ∷ rest) ≡ None → s.at ≢ a
not-first s rest a none is =
    let some : Some s.word ≡ None = sym (look_up-here s rest a is) ∙ none in
    true≢false (ap (λ (o : Option ℕ). is_some o) some)

pub none-behind : (s : Waiting) (rest : List Waiting) (a : ℕ) → look_up a (s ∷ rest) ≡ None → look_up a rest ≡ None
none-behind s rest a none = sym (look_up-past s rest a (not-first s rest a none)) ∙ none

-- nothing waits below the least address
pub none-low : (a least : ℕ) (ps : List Waiting) → AreAscending least ps → a < least → look_up a ps ≡ None
none-low a least [] h lt = refl
none-low a least (s ∷ rest) h lt =
    let other : s.at ≢ a = omega (arith, lt, h.0) in
    let low : a < s.at + 1 = omega (arith, lt, h.0) in
    look_up-past s rest a other ∙ none-low a (s.at + 1) rest h.1 low

-- One more set.
module _ (new : Waiting) where
  pub joined-below : (s : Waiting) (rest : List Waiting) → nat_lt s.at new.at ≡ true
      → with_set new (s ∷ rest) ≡ s ∷ with_set new rest
  joined-below s rest lower =
      ap (λ (b : Bool). if b then s
      ∷ with_set new rest else (if s.at == new.at then new ∷ rest else new ∷ s ∷ rest)) lower

  pub joined-same : (s : Waiting) (rest : List Waiting) → nat_lt s.at new.at ≡ false → (s.at == new.at) ≡ true
      → with_set new (s ∷ rest) ≡ new ∷ rest
  joined-same s rest lower is =
      ap (λ (b : Bool). if b then s
      ∷ with_set new rest else (if s.at == new.at then new ∷ rest else new ∷ s ∷ rest)) lower
      ∙ ap (λ (b : Bool). if b then new ∷ rest else new ∷ s ∷ rest) is

  pub joined-above : (s : Waiting) (rest : List Waiting) → nat_lt s.at new.at ≡ false → (s.at == new.at) ≡ false
      → with_set new (s ∷ rest) ≡ new ∷ s ∷ rest
  joined-above s rest lower is =
      ap (λ (b : Bool). if b then s
      ∷ with_set new rest else (if s.at == new.at then new ∷ rest else new ∷ s ∷ rest)) lower
      ∙ ap (λ (b : Bool). if b then new ∷ rest else new ∷ s ∷ rest) is

  -- it waits
  pub look_up-joined : (ps : List Waiting) → look_up new.at (with_set new ps) ≡ Some new.word
  look_up-joined [] = look_up-here new [] new.at refl
  look_up-joined (s ∷ rest) = elim (order s.at new.at) [
    | below b lt ↦
        let other : s.at ≢ new.at = omega (arith, lt) in
        ap (λ (l : List Waiting). look_up new.at l) (joined-below s rest b)
        ∙ elim (eqb_tells s.at new.at) [
          | inl e ↦ absurd (other e.1)
          | inr differs ↦ ap (λ (b : Bool). if b then Some s.word else look_up new.at (with_set new rest)) differs.0
              ∙ look_up-joined rest
        ]
    | same b e is ↦ ap (λ (l : List Waiting). look_up new.at l) (joined-same s rest b e)
        ∙ look_up-here new rest new.at refl
    | above b e lt ↦ ap (λ (l : List Waiting). look_up new.at l) (joined-above s rest b e)
        ∙ look_up-here new (s ∷ rest) new.at refl
  ]

  -- any other address has what it had
  pub look_up-other : (a : ℕ) → a ≢ new.at → (ps : List Waiting) → look_up a (with_set new ps) ≡ look_up a ps
  look_up-other a other [] = look_up-past new [] a (λ e. other (sym e))
  look_up-other a other (s ∷ rest) = elim (order s.at new.at) [
    | below b lt ↦ ap (λ (l : List Waiting). look_up a l) (joined-below s rest b)
        ∙ ap (λ (o : Option ℕ). if s.at == a then Some s.word else o) (look_up-other a other rest)
    | same b e is ↦
        let differs : s.at ≢ a = λ at. other (sym at ∙ is) in
        ap (λ (l : List Waiting). look_up a l) (joined-same s rest b e)
        ∙ look_up-past new rest a (λ at. other (sym at)) ∙ sym (look_up-past s rest a differs)
    | above b e lt ↦ ap (λ (l : List Waiting). look_up a l) (joined-above s rest b e)
        ∙ look_up-past new (s ∷ rest) a (λ at. other (sym at))
  ]

  -- it takes a place of its own, where none of its address waits
  pub joined-longer : (ps : List Waiting) → look_up new.at ps ≡ None → length (with_set new ps) ≡ length ps + 1
  joined-longer [] none = refl
  joined-longer (s ∷ rest) none = elim (order s.at new.at) [
    | below b lt ↦
        let size = ap (λ (l : List Waiting). length l) (joined-below s rest b) in
        let more = joined-longer rest (none-behind s rest new.at none) in
        omega (arith, size, more)
    | same b e is ↦ absurd (not-first s rest new.at none is)
    | above b e lt ↦ omega (arith, ap (λ (l : List Waiting). length l) (joined-above s rest b e))
  ]

  pub ascending-joined : (ps : List Waiting) (least : ℕ) → AreAscending least ps → least ≤ new.at
      → AreAscending least (with_set new ps)
  ascending-joined [] least h le = (le, tt)
  ascending-joined (s ∷ rest) least h le = elim (order s.at new.at) [
    | below b lt ↦
        let from : s.at + 1 ≤ new.at = omega (arith, lt) in
        subst (λ (l : List Waiting). AreAscending least l) (sym (joined-below s rest b))
        (h.0, ascending-joined rest (s.at + 1) h.1 from)
    | same b e is ↦
        let moved : AreAscending (new.at + 1) rest = subst (λ (k : ℕ). AreAscending (k + 1) rest) is h.1 in
        subst (λ (l : List Waiting). AreAscending least l) (sym (joined-same s rest b e)) (le, moved)
    | above b e lt ↦
        let from : new.at + 1 ≤ s.at = omega (arith, lt) in
        subst (λ (l : List Waiting). AreAscending least l) (sym (joined-above s rest b e)) (le, (from, h.1))
  ]
