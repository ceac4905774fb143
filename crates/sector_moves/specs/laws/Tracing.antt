-- Laws of how far a move has come on a flash whose sectors are small, by what the flash holds.
use Rattle.std.specs.Prelude.{◌≡◌, ◌≢◌, ◌<◌, ◌≤◌, ◌+◌, ◌-◌, ◌*◌, ℕ, List, slice_index, Option, Some, None, IfNone}
use Rattle.std.specs.Prelude.{IfSome}
use Rattle.std.proofs.Common.{refl, sym, ◌∙◌, ap, ⊎_elim, subst, arith}
use Rattle.std.proofs.lemmas.Bool.{cases_lt}
use Rattle.nvm_board.specs.declared.board.TheConstants.{LEAST_PAGES}
use Rattle.flash_device.specs.declared.flash.TheConstants.{BLANK}
use Rattle.flash_device.specs.declared.layout.TheConstants.{STEP_PAGES}
use Rattle.flash_device.specs.FlashBlocks.{area_size, steps_of, witness_start}
use Rattle.flash_device.specs.FlashCalls.{AreFilled}
use Rattle.flash_device.specs.FlashLogs.{base_in, page_word, turn_of, words_of}
use Rattle.flash_device.specs.PageTables.{IsPageTable}
use Rattle.flash_device.specs.laws.Rising.{rises_to, sectors_filled}
use Rattle.flash_area.specs.Spares.{spare_in, spare_sector}
use Rattle.flash_area.specs.laws.Words.{index-page}
use Rattle.sector_moves.specs.SectorSpares.{HasStepCopies, IsSectorSpare, ReadsAsCopy, last_sectors, last_start}
use Rattle.sector_moves.specs.SectorSpares.{spare_slots}
use Rattle.sector_moves.specs.laws.Stepping.{none_begun}

-- what follows of a value, if there is one, or none
pub some_with : {T : Type 0} (o : Option T) (P Q : T → Type 0) → ((x : T) → P x → Q x) → IfSome o P → IfSome o Q
some_with None P Q f h = tt
some_with (Some x) P Q f h = f x h

pub none_with : {T : Type 0} (o : Option T) (P Q : Type 0) → (P → Q) → IfNone o P → IfNone o Q
none_with None P Q f h = f h
none_with (Some x) P Q f h = tt

module _ (start : ℕ → ℕ) (rise : (s : ℕ) → start s ≤ start (s + 1)) (m : List ℕ) where
  -- one sector more is blank
  pub blank_more : (from s : ℕ) → from ≤ s → AreFilled m (start from) (start s - start from) BLANK
      → AreFilled m (start s) (start (s + 1) - start s) BLANK
      → AreFilled m (start from) (start (s + 1) - start from) BLANK
  blank_more from s le was is = sectors_filled start rise m m from s BLANK le was (record { same = λ k out. refl }) is

  -- each of the sectors that are blank is
  pub blank_within : (from s end : ℕ) → from ≤ s → s + 1 ≤ end
      → AreFilled m (start from) (start end - start from) BLANK → AreFilled m (start s) (start (s + 1) - start s) BLANK
  blank_within from s end le lt all =
      let low = rises_to start rise from s le in
      let up = rise s in
      let high = rises_to start rise (s + 1) end lt in record {
        each = λ k few.
            let place : start from + (start s - start from + k) ≡ start s + k = omega (arith, low) in
            ap (λ (j : ℕ). slice_index m j) (sym place)
            ∙ all.each (start s - start from + k) (omega (arith, few, low, up, high));
      }

  module _ (pages sectors turn : ℕ) where
    -- one of the last sectors more is blank
    pub last_more : (n s : ℕ) → s ≡ spare_sector sectors turn + (steps_of pages + n)
        → AreFilled m (last_start pages sectors start turn 0)
        (last_start pages sectors start turn n - last_start pages sectors start turn 0) BLANK
        → AreFilled m (start s) (start (s + 1) - start s) BLANK
        → AreFilled m (last_start pages sectors start turn 0)
        (last_start pages sectors start turn (n + 1) - last_start pages sectors start turn 0) BLANK
    last_more n s is was here =
        let first = spare_sector sectors turn in
        let next : first + (steps_of pages + n) + 1 ≡ first + (steps_of pages + (n + 1)) = omega arith in
        subst (λ (k : ℕ). AreFilled m (last_start pages sectors start turn 0)
        (start k - last_start pages sectors start turn 0) BLANK) next
        (blank_more (first + (steps_of pages + 0)) (first + (steps_of pages + n)) (omega arith) was
        (subst (λ (k : ℕ). AreFilled m (start k) (start (k + 1) - start k) BLANK) is here))

    -- no more of the last sectors are blank than up to one that isn't
    pub last_most : (n s e : ℕ) → s ≡ spare_sector sectors turn + (steps_of pages + n)
        → ¬ AreFilled m (start s) (start (s + 1) - start s) BLANK
        → AreFilled m (last_start pages sectors start turn 0)
        (last_start pages sectors start turn e - last_start pages sectors start turn 0) BLANK → e ≤ n
    last_most n s e is used all = ⊎_elim
        (λ (more : n < e). absurd (used
        (blank_within (spare_sector sectors turn + (steps_of pages + 0)) s
        (spare_sector sectors turn + (steps_of pages + e)) (omega (arith, is)) (omega (arith, is, more)) all)))
        (λ (most : e ≤ n). most)
        (cases_lt n e)

module _ (pages slots sectors : ℕ) (start : ℕ → ℕ) (m : List ℕ) (turn : ℕ) where
  -- Pages that read the same are copies, if the turn is that of the flash.
  module _ (is : turn ≡ turn_of slots m) (steps : ℕ) (most : STEP_PAGES * steps ≤ pages) where
    word_is : (p k : ℕ) → p < STEP_PAGES * steps → k < 16
        → slice_index (words_of pages slots m) (16 * p + k) ≡ page_word m (base_in slots turn) slots p k
    word_is p k lt few = index-page pages slots m p k (omega (arith, lt, most)) few
        ∙ ap (λ (t : ℕ). page_word m (base_in slots t) slots p k) (sym is)

    pub copies_are : (older : ℕ) (table other : List ℕ) → IsPageTable pages m (base_in slots turn) slots table
        → IsPageTable pages m (spare_in slots turn) (spare_slots slots sectors start turn steps) other
        → ((p : ℕ) → STEP_PAGES * steps ≤ p → p < pages → slice_index table p ≡ 0 → slice_index other p ≡ 0)
        → ((p : ℕ) → p < STEP_PAGES * steps → p + 1 ≢ older → ReadsAsCopy slots m (base_in slots turn)
        (spare_in slots turn) (spare_slots slots sectors start turn steps) p)
        → HasStepCopies pages slots sectors start m turn steps older
    copies_are older table other home index lacks reads = record {
      each = λ p k lt but few. (reads p lt but).each k few ∙ sym (word_is p k lt few);
      left = λ p from below none. sym (index.each p below) ∙ lacks p from below (home.each p below ∙ none);
    }

    -- copies read the same
    pub copies_read : (older : ℕ) → HasStepCopies pages slots sectors start m turn steps older → (p : ℕ)
        → p < STEP_PAGES * steps → p + 1 ≢ older → ReadsAsCopy slots m (base_in slots turn) (spare_in slots turn)
        (spare_slots slots sectors start turn steps) p
    copies_read older has p lt but = record { each = λ k few. has.each p k lt but few ∙ word_is p k lt few }

  module _ (least : LEAST_PAGES ≤ pages) (first : start 0 ≡ 0) (second : start sectors ≡ area_size slots)
      (third : start (2 * sectors) ≡ witness_start slots) where
    -- the last sectors that are blank are erased
    pub blank_taken : (n : ℕ) → n ≤ last_sectors pages sectors → (turn ≡ 1 → n ≡ 0)
        → AreFilled m (last_start pages sectors start turn 0)
        (last_start pages sectors start turn n - last_start pages sectors start turn 0) BLANK
        → IsSectorSpare pages slots sectors start m turn n 0 0
    blank_taken n within idle blank = record {
      within = within;
      most = omega (arith, least);
      idle = idle;
      fresh = λ lt. refl;
      few = omega arith;
      blank = blank;
      copies = (none_begun pages slots sectors start first second third least m turn).copies;
    }
