-- What clearing the earlier words of a page of pairs leaves.
use Rattle.std.specs.Prelude.{◌≡◌, ◌⊎◌, ◌<◌, ◌≤◌, ◌+◌, ◌-◌, ◌*◌, ℕ, List, length, slice_index}
use Rattle.std.proofs.Common.{refl, ◌∙◌, ap, inl, inr, ⊎_elim, subst, arith}
use Rattle.std.proofs.lemmas.Bool.{cases_lt}
use Rattle.nvm_board.specs.Facts.{address}
use Rattle.nvm_board.specs.History.{written}
use Rattle.nvm_board.specs.Torn.{IsMixture, Torn}
use Rattle.nvm_board.specs.laws.Torn.{IsMixture-Torn, written-inside}
use Rattle.undo_journal.specs.declared.layout.TheConstants.{JOURNAL, JOURNAL_END}
use Rattle.undo_journal.specs.ClearingParts.{AreClearedWords, ChangesEarlier, IsClearPage, IsPairPage}
use Rattle.undo_journal.specs.Undo.{pair_at}
use Rattle.undo_journal.specs.Wiping.{ChangesPairs, NamesSame}

pub names_none : (m : List ℕ) → NamesSame m m
names_none m = record { each = λ i lt. refl }

pub changes_no_earlier : (m after : List ℕ) (page : ℕ) → after ≡ m → ChangesEarlier page m after
changes_no_earlier m after page same = record {
  size = ap length same;
  names = λ k lt. ap (λ (l : List ℕ). slice_index l (address page (2 * k))) same;
  others = λ k out. ap (λ (l : List ℕ). slice_index l k) same;
}

-- the words with cleared earlier ones are written over the page, or torn
pub changes_earlier : (m mid run after : List ℕ) (page : ℕ) → mid ≡ m → length run ≡ 16
    → address page 0 + length run ≤ length mid → AreClearedWords page m run → Torn mid (address page 0) run after
    → ChangesEarlier page m after
changes_earlier m mid run after page same size fits cleared torn =
    let mix : IsMixture mid (address page 0) run after = IsMixture-Torn mid run after (address page 0) fits torn in
    let was : (k : ℕ) → slice_index mid k ≡ slice_index m k = λ k. ap (λ (l : List ℕ). slice_index l k) same in
    record {
      size = mix.size ∙ ap length same;
      names = λ k lt.
          let inside : 2 * k < length run = omega (arith, lt, size) in
          let place : address page 0 + 2 * k ≡ address page (2 * k) = omega arith in
          let family : ℕ → Type 0 = λ j. slice_index after j ≡ slice_index m j in
          subst family place (⊎_elim
          (λ (old : slice_index after (address page 0 + 2 * k) ≡ slice_index mid (address page 0 + 2 * k)).
          old ∙ was (address page 0 + 2 * k))
          (λ (new : slice_index after (address page 0 + 2 * k) ≡ slice_index run (2 * k)).
          let back : address page (2 * k) ≡ address page 0 + 2 * k = omega arith in
          new ∙ cleared.names k lt ∙ ap (λ (j : ℕ). slice_index m j) back)
          (mix.each (2 * k) inside));
      others = λ k out. mix.elsewhere k (⊎_elim
          (λ (before : k < address page 0). inl before)
          (λ (past : address page 16 ≤ k).
          let x : address page 0 + length run ≤ k = omega (arith, past, size) in inr x) out)
          ∙ was k;
    }

-- the page is clear once all of it is written
pub clear_written : (m mid run after : List ℕ) (page : ℕ) → length run ≡ 16
    → address page 0 + length run ≤ length mid → AreClearedWords page m run → after ≡ written mid (address page 0) run
    → IsClearPage page after
clear_written m mid run after page size fits cleared is = record {
  each = λ k lt.
      let inside : 2 * k + 1 < length run = omega (arith, lt, size) in
      let place : address page (2 * k + 1) ≡ address page 0 + (2 * k + 1) = omega arith in
      ap (λ (j : ℕ). slice_index after j) place
      ∙ ap (λ (l : List ℕ). slice_index l (address page 0 + (2 * k + 1))) is
      ∙ written-inside mid run (address page 0) (2 * k + 1) fits inside ∙ cleared.cleared k lt;
}

-- only pairs change
pub changes_pairs : (m mid after : List ℕ) (page : ℕ) → IsPairPage page → ChangesPairs m mid
    → ChangesEarlier page mid after → ChangesPairs m after
changes_pairs m mid after page is was change =
    let low = is.0 in let high = is.1 in record {
      size = change.size ∙ was.size;
      others = λ k out. change.others k (⊎_elim
          (λ (before : k < JOURNAL). let x : k < address page 0 = omega (arith, before, low) in inl x)
          (λ (past : JOURNAL_END ≤ k). let x : address page 16 ≤ k = omega (arith, past, high) in inr x) out)
          ∙ was.others k out;
    }

-- and no address of them
pub names_page : (m mid after : List ℕ) (page : ℕ) → IsPairPage page → NamesSame m mid
    → ChangesEarlier page mid after → NamesSame m after
names_page m mid after page is was change = record {
  each = λ i lt.
      let low = is.0 in let at = JOURNAL + 2 * i in
      let same : slice_index after at ≡ slice_index mid at = ⊎_elim
      (λ (before : at < address page 0). change.others at (inl before))
      (λ (from : address page 0 ≤ at). ⊎_elim
      (λ (below : at < address page 16).
      let k = i - (8 * page - 592) in
      let place : address page (2 * k) ≡ at = omega (arith, low, from) in
      let inside : k < 8 = omega (arith, low, from, below) in
      let family : ℕ → Type 0 = λ j. slice_index after j ≡ slice_index mid j in
      subst family place (change.names k inside))
      (λ (past : address page 16 ≤ at). change.others at (inr past))
      (cases_lt at (address page 16)))
      (cases_lt at (address page 0)) in
      same ∙ was.each i lt;
}

-- the earlier words of one page more are 0
pub cleared_more : (mid after : List ℕ) (page : ℕ) → IsPairPage page → ChangesEarlier page mid after
    → IsClearPage page after → ((i : ℕ) → JOURNAL + 2 * i + 1 < 16 * page → (pair_at mid i).earlier ≡ 0)
    → (i : ℕ) → JOURNAL + 2 * i + 1 < address page 16 → (pair_at after i).earlier ≡ 0
cleared_more mid after page is change clear was i below =
    let low = is.0 in let at = JOURNAL + 2 * i + 1 in ⊎_elim
    (λ (before : at < address page 0).
    let first : at < 16 * page = omega (arith, before) in
    change.others at (inl before) ∙ was i first)
    (λ (from : address page 0 ≤ at).
    let k = i - (8 * page - 592) in
    let place : address page (2 * k + 1) ≡ at = omega (arith, low, from) in
    let inside : k < 8 = omega (arith, low, from, below) in
    let family : ℕ → Type 0 = λ j. slice_index after j ≡ 0 in
    subst family place (clear.each k inside))
    (cases_lt at (address page 0))
