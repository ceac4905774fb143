-- Laws of places: no two words share one, and no unit has words of a record and of a mark.
use Rattle.std.specs.Prelude.{◌≡◌, ◌≢◌, ◌<◌, ◌≤◌, ◌+◌, ◌/◌, ℕ}
use Rattle.std.proofs.Common.{sym, ◌∙◌, ap₂, subst, ⊎_elim, arith}
use Rattle.std.proofs.lemmas.Bool.{cases_lt}
use Rattle.program_units.specs.UnitFrames.{IsUnit, KeepsMarksApart, KeepsWordsApart, frame_of, place_in}
use Rattle.program_units.specs.UnitFrames.{rank_of}
use Rattle.program_units.specs.laws.UnitPlaces.{origin, place_mark, place_record, placed}
use Rattle.program_units.specs.laws.UnitRuns.{place_most}

-- a place is one of one frame, and of one word there
same_rank : (f r g s : ℕ) → r < 20 → s < 20 → place_in f r ≡ place_in g s → (f ≡ g) × (r ≡ s)
same_rank f r g s few least e =
    let a = place_most f r few in
    let a0 = a.0 in
    let a1 = a.1 in
    let b = place_most g s least in
    let b0 = b.0 in
    let b1 = b.1 in (
      omega (arith, e, a0, a1, b0, b1),
      ⊎_elim
          (λ (x : r < 18). let p = place_record f r x in ⊎_elim
          (λ (y : s < 18). let q = place_record g s y in omega (arith, e, p, q, x, y))
          (λ (y : 18 ≤ s). let q = place_mark g s y in absurd (omega (arith, e, p, q, x, y, least)))
          (cases_lt s 18))
          (λ (x : 18 ≤ r). let p = place_mark f r x in ⊎_elim
          (λ (y : s < 18). let q = place_record g s y in absurd (omega (arith, e, p, q, x, y, few)))
          (λ (y : 18 ≤ s). let q = place_mark g s y in omega (arith, e, p, q, x, y, few, least))
          (cases_lt s 18))
          (cases_lt r 18),
    )

pub words_apart : (slots : ℕ) → 0 < slots → KeepsWordsApart slots
words_apart slots some = record {
  each = λ a b lt below e.
      let x = placed slots a some lt in
      let y = placed slots b some below in
      let same = same_rank (frame_of slots a) (rank_of slots a) (frame_of slots b) (rank_of slots b) x.few y.few e in
      x.counted ∙ ap₂ (λ (f r : ℕ). origin slots f + r) same.0 same.1 ∙ sym y.counted;
}

-- by the size of the unit
units_apart : (unit f r g s : ℕ) → IsUnit unit → r < 18 → 18 ≤ s → s < 20
    → place_in f r / unit ≢ place_in g s / unit
units_apart unit f r g s fits low mark few =
    let p = place_record f r low in
    let q = place_mark g s mark in ⊎_elim
    (λ small. ⊎_elim
    (λ (e : unit ≡ 1). subst (λ (u : ℕ). place_in f r / u ≢ place_in g s / u) (sym e)
    (λ h. absurd (omega (arith, h, p, q, low, mark, few))))
    (λ (e : unit ≡ 2). subst (λ (u : ℕ). place_in f r / u ≢ place_in g s / u) (sym e)
    (λ h. absurd (omega (arith, h, p, q, low, mark, few)))) small)
    (λ large. ⊎_elim
    (λ (e : unit ≡ 4). subst (λ (u : ℕ). place_in f r / u ≢ place_in g s / u) (sym e)
    (λ h. absurd (omega (arith, h, p, q, low, mark, few))))
    (λ (e : unit ≡ 8). subst (λ (u : ℕ). place_in f r / u ≢ place_in g s / u) (sym e)
    (λ h. absurd (omega (arith, h, p, q, low, mark, few)))) large) fits.is

pub marks_apart : (unit slots : ℕ) → 0 < slots → IsUnit unit → KeepsMarksApart unit slots
marks_apart unit slots some fits = record {
  each = λ a b lt below record_word mark_word.
      let y = placed slots b some below in
      units_apart unit (frame_of slots a) (rank_of slots a) (frame_of slots b) (rank_of slots b) fits record_word
      mark_word y.few;
}
