-- Laws of the words that a flash stands for.
use Rattle.std.specs.Prelude.{◌≡◌, ◌≢◌, ◌⊎◌, ◌<◌, ◌≤◌, ◌+◌, ◌-◌, ◌*◌, ◌/◌, ◌%◌, ℕ, List}
use Rattle.std.specs.Prelude.{length}
use Rattle.std.specs.Prelude.{slice_index}
use Rattle.std.proofs.Common.{sym, ◌∙◌, ap, ap₂, inl, inr, ⊎_elim, arith}
use Rattle.std.proofs.lemmas.Bool.{cases_eq, cases_lt}
use Rattle.std.proofs.lemmas.Grind.{same_number_lists}
use Rattle.nvm_board.specs.History.{written}
use Rattle.nvm_board.specs.laws.Torn.{length-written, written-elsewhere, written-inside}
use Rattle.flash_device.specs.FlashLogs.{page_word, word_in, words_of, base_in, turn_of}
use Rattle.flash_device.specs.laws.Finding.{length-image, index-image}

-- a run that is written leaves the words of the other pages
pub written_other : (words run : List ℕ) (page first p k : ℕ) → p ≢ page → k < 16 → first + length run ≤ 16
    → slice_index (written words (16 * page + first) run) (16 * p + k) ≡ slice_index words (16 * p + k)
written_other words run page first p k other few fits =
    written-elsewhere words run (16 * page + first) (16 * p + k) (⊎_elim
    (λ (lt : p < page). let x : 16 * p + k < 16 * page + first = omega (arith, lt, few) in inl x)
    (λ (ge : page ≤ p). let x : 16 * page + first + length run ≤ 16 * p + k = omega (arith, ge, other, fits) in inr x)
    (cases_lt p page))

module _ (pages slots : ℕ) where
  pub length-words : (m : List ℕ) → length (words_of pages slots m) ≡ 16 * pages
  unfolding words_of
  length-words m = length-image (word_in m (base_in slots (turn_of slots m)) slots) 0 (16 * pages)

  -- a word of the board is one of a page
  pub index-words : (m : List ℕ) (i : ℕ) → i < 16 * pages
      → slice_index (words_of pages slots m) i ≡ page_word m (base_in slots (turn_of slots m)) slots (i / 16) (i % 16)
  unfolding words_of
  index-words m i lt = let f : ℕ → ℕ = word_in m (base_in slots (turn_of slots m)) slots in let z : 0 + i ≡ i =
      omega arith in
      index-image f 0 (16 * pages) i lt ∙ ap f z

  pub index-page : (m : List ℕ) (page k : ℕ) → page < pages → k < 16
      → slice_index (words_of pages slots m) (16 * page + k)
      ≡ page_word m (base_in slots (turn_of slots m)) slots page k
  index-page m page k below lt =
      let inside : 16 * page + k < 16 * pages = omega (arith, below, lt) in
      let number : (16 * page + k) / 16 ≡ page = omega (arith, lt) in
      let place : (16 * page + k) % 16 ≡ k = omega (arith, lt) in
      let base = base_in slots (turn_of slots m) in
      index-words m (16 * page + k) inside ∙ ap₂ (λ (p j : ℕ). page_word m base slots p j) number place

  module _ (m after : List ℕ) (base : ℕ) (home : base ≡ base_in slots (turn_of slots m))
      (turn : turn_of slots after ≡ turn_of slots m) where
    word_after : (i : ℕ) → i < 16 * pages → slice_index (words_of pages slots after) i
        ≡ page_word after base slots (i / 16) (i % 16)
    word_after i lt = index-words after i lt
        ∙ ap (λ (b : ℕ). page_word after b slots (i / 16) (i % 16)) (ap (base_in slots) turn ∙ sym home)

    word_before : (i : ℕ) → i < 16 * pages
        → slice_index (words_of pages slots m) i ≡ page_word m base slots (i / 16) (i % 16)
    word_before i lt = index-words m i lt ∙ ap (λ (b : ℕ). page_word m b slots (i / 16) (i % 16)) (sym home)

    -- the same pages are the same words
    pub words_same : ((p k : ℕ) → p < pages → k < 16 → page_word after base slots p k ≡ page_word m base slots p k)
        → words_of pages slots after ≡ words_of pages slots m
    words_same same = same_number_lists (words_of pages slots after) (words_of pages slots m) (length-words after
        ∙ sym (length-words m)) (λ i lt.
        let inside : i < 16 * pages = let all = length-words after in omega (arith, lt, all) in
        let p : i / 16 < pages = omega (arith, inside) in
        let k : i % 16 < 16 = omega arith in
        word_after i inside ∙ same (i / 16) (i % 16) p k ∙ sym (word_before i inside))

    -- one other page is a run that is written
    module _ (page first : ℕ) (run : List ℕ) (below : page < pages) (fits : first + length run ≤ 16) where
      -- the words that the page then has
      abbrev pub new_word : ℕ → ℕ
      new_word k = slice_index (written (words_of pages slots m) (16 * page + first) run) (16 * page + k)

      pub words_written : ((p k : ℕ) → p < pages → p ≢ page → k < 16
          → page_word after base slots p k ≡ page_word m base slots p k)
          → ((k : ℕ) → k < 16 → page_word after base slots page k ≡ new_word k)
          → words_of pages slots after ≡ written (words_of pages slots m) (16 * page + first) run
      words_written others here =
          let wrote = length-written (words_of pages slots m) run (16 * page + first) in
          same_number_lists (words_of pages slots after) (written (words_of pages slots m) (16 * page + first) run)
          (length-words after ∙ sym (wrote ∙ length-words m)) (λ i lt.
          let inside : i < 16 * pages = let all = length-words after in omega (arith, lt, all) in
          let p : i / 16 < pages = omega (arith, inside) in
          let k : i % 16 < 16 = omega arith in
          word_after i inside ∙ ⊎_elim
          (λ (e : i / 16 ≡ page).
          let place : 16 * page + i % 16 ≡ i = omega (arith, e) in
          ap (λ (q : ℕ). page_word after base slots q (i % 16)) e ∙ here (i % 16) k
          ∙ ap (λ (j : ℕ). slice_index (written (words_of pages slots m) (16 * page + first) run) j) place)
          (λ (other : i / 16 ≢ page).
          let outside : (i < 16 * page + first) ⊎ (16 * page + first + length run ≤ i) = ⊎_elim
          (λ (b : i < 16 * page + first). inl b)
          (λ (a : 16 * page + first ≤ i).
          let past : 16 * page + first + length run ≤ i = past_page i other a in inr past)
          (cases_lt i (16 * page + first)) in
          others (i / 16) (i % 16) p other k ∙ sym (word_before i inside)
          ∙ sym (written-elsewhere (words_of pages slots m) run (16 * page + first) i outside))
          (cases_eq (i / 16) page))
        where
          past_page : (i : ℕ) → i / 16 ≢ page → 16 * page + first ≤ i → 16 * page + first + length run ≤ i
          past_page i other a = ⊎_elim
              (λ (lt : i < 16 * page + first + length run).
              let e : i / 16 ≡ page = omega (arith, lt, a, fits) in absurd (other e))
              (λ (ge : 16 * page + first + length run ≤ i). ge)
              (cases_lt i (16 * page + first + length run))

      -- the words of a page with a run put in
      pub overlaid : (old new : List ℕ) → ((k : ℕ) → k < 16 → slice_index old k ≡ page_word m base slots page k)
          → ((k : ℕ) → (k < first) ⊎ (first + length run ≤ k) → slice_index new k ≡ slice_index old k)
          → ((k : ℕ) → k < length run → slice_index new (first + k) ≡ slice_index run k)
          → (k : ℕ) → k < 16 → slice_index new k ≡ new_word k
      overlaid old new was other put k lt =
          let words = words_of pages slots m in
          let at = 16 * page + first in
          let stays : (k < first) ⊎ (first + length run ≤ k) → slice_index new k ≡ new_word k = λ out.
          let outside : (16 * page + k < at) ⊎ (at + length run ≤ 16 * page + k) = ⊎_elim
          (λ (b : k < first). let x : 16 * page + k < 16 * page + first = omega (arith, b) in inl x)
          (λ (a : first + length run ≤ k).
          let x : 16 * page + first + length run ≤ 16 * page + k = omega (arith, a) in inr x) out in
          other k out ∙ was k lt ∙ ap (λ (b : ℕ). page_word m b slots page k) home ∙ sym (index-page m page k below lt)
          ∙ sym (written-elsewhere words run at (16 * page + k) outside) in
          ⊎_elim (λ (b : k < first). stays (inl b))
          (λ (from : first ≤ k). ⊎_elim
          (λ (inside : k < first + length run).
          let j : k - first < length run = omega (arith, inside, from) in
          let place : k ≡ first + (k - first) = omega (arith, from) in
          let spot : at + (k - first) ≡ 16 * page + k = omega (arith, from) in
          let room : at + length run ≤ length words =
          let all = length-words m in omega (arith, all, below, fits) in
          ap (λ (i : ℕ). slice_index new i) place ∙ put (k - first) j
          ∙ sym (written-inside words run at (k - first) room j)
          ∙ ap (λ (i : ℕ). slice_index (written words at run) i) spot)
          (λ (past : first + length run ≤ k). stays (inr past))
          (cases_lt k (first + length run)))
          (cases_lt k first)
