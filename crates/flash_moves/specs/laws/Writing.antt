-- A record that is put, whole or not, is a write of the board that is done or not begun.
use Rattle.std.specs.Prelude.{◌≡◌, ◌≢◌, ◌⊎◌, ◌<◌, ◌≤◌, ◌+◌, ◌-◌, ◌*◌, ℕ, suc, false, List, length}
use Rattle.std.specs.Prelude.{slice_index, slice_set}
use Rattle.std.proofs.Common.{sym, ◌∙◌, ap, inl, inr, ⊎_elim, arith, get_or-set_same, get_or-set_other}
use Rattle.std.proofs.lemmas.Bool.{cases_eq, cases_lt}
use Rattle.std.proofs.lemmas.Grind.{same_number_lists}
use Rattle.nvm_board.specs.History.{written}
use Rattle.nvm_board.specs.laws.Torn.{length-written, written-elsewhere, written-inside}
use Rattle.flash_device.specs.FlashCalls.{SameElsewhere}
use Rattle.flash_device.specs.PageTables.{IsPageTable, AreFree}
use Rattle.flash_device.specs.FlashLogs.{find, is_marked, slot_of, page_word, words_of, base_in, turn_of}
use Rattle.flash_device.specs.PutRecords.{IsPut, PutsInSlot}
use Rattle.flash_moves.specs.Rings.{SameMarks}
use Rattle.flash_device.specs.laws.Putting.{word_kept, none_kept, find_kept, holds_none, put_found, put_word}
use Rattle.flash_device.specs.laws.Putting.{put_other}
use Rattle.flash_device.specs.laws.Marks.{blank_slot, blank_same}
use Rattle.flash_moves.specs.laws.Turns.{slot_marks, turn_same}
use Rattle.flash_area.specs.laws.Words.{words_same, words_written, overlaid}

-- a run that is written twice
written_twice : (m run : List ℕ) (at : ℕ) → at + length run ≤ length m
    → written (written m at run) at run ≡ written m at run
written_twice m run at fits =
    let once : length (written m at run) ≡ length m = length-written m run at in
    same_number_lists (written (written m at run) at run) (written m at run) (length-written (written m at run) run at)
    (λ i lt. ⊎_elim
    (λ (before : i < at). written-elsewhere (written m at run) run at i (inl before))
    (λ (from : at ≤ i). ⊎_elim
    (λ (inside : i < at + length run).
    let j : i - at < length run = omega (arith, inside, from) in
    let place : i ≡ at + (i - at) = omega (arith, from) in
    let room : at + length run ≤ length (written m at run) = omega (arith, fits, once) in
    ap (λ (k : ℕ). slice_index (written (written m at run) at run) k) place
    ∙ written-inside (written m at run) run at (i - at) room j ∙ sym (written-inside m run at (i - at) fits j)
    ∙ sym (ap (λ (k : ℕ). slice_index (written m at run) k) place))
    (λ (past : at + length run ≤ i). written-elsewhere (written m at run) run at i (inr past))
    (cases_lt i (at + length run)))
    (cases_lt i at))

-- a run that is written, or not begun, and then written
pub done_again : (m mid after run : List ℕ) (at : ℕ) → at + length run ≤ length m
    → (mid ≡ m) ⊎ (mid ≡ written m at run) → after ≡ written mid at run → after ≡ written m at run
done_again m mid after run at fits was done = ⊎_elim
    (λ (old : mid ≡ m). done ∙ ap (λ (l : List ℕ). written l at run) old)
    (λ (new : mid ≡ written m at run).
    done ∙ ap (λ (l : List ℕ). written l at run) new ∙ written_twice m run at fits) was

-- a run that is written, or not begun, twice
pub whole_again : (m mid after run : List ℕ) (at : ℕ) → at + length run ≤ length m
    → (mid ≡ m) ⊎ (mid ≡ written m at run) → (after ≡ mid) ⊎ (after ≡ written mid at run)
    → (after ≡ m) ⊎ (after ≡ written m at run)
whole_again m mid after run at fits was is = ⊎_elim
    (λ (same : after ≡ mid). ⊎_elim
    (λ (old : mid ≡ m). inl (same ∙ old))
    (λ (new : mid ≡ written m at run). inr (same ∙ new)) was)
    (λ (done : after ≡ written mid at run). inr (done_again m mid after run at fits was done)) is

module _ (pages slots : ℕ) where
  module _ (m after : List ℕ) (area s : ℕ) (elsewhere : SameElsewhere m (slot_of (base_in slots area) s) 20 after)
      (below : s < slots) (home : base_in slots area ≡ base_in slots (turn_of slots m))
      (are : AreFree m (base_in slots area) s slots) where
    free : is_marked m (slot_of (base_in slots area) s + 18) ≡ false
    free = blank_slot m (slot_of (base_in slots area) s) (are.free s (omega arith) below)

    marks : SameMarks slots m after
    marks = slot_marks slots m after area s below elsewhere

    turn : turn_of slots after ≡ turn_of slots m
    turn = turn_same slots m after marks

    -- without its mark the record changes nothing
    pub unmarked_same : is_marked after (slot_of (base_in slots area) s + 18) ≡ false
        → words_of pages slots after ≡ words_of pages slots m
    unmarked_same none = words_same pages slots m after (base_in slots area) home turn
        (λ p k small lt. none_kept m after (base_in slots area) s elsewhere free slots p k (omega (arith, lt)) none)

    module _ (words : List ℕ) (page : ℕ) (size : length words ≡ 18) (within : page < pages)
        (names : slice_index words 16 ≡ page) (put : IsPut after (slot_of (base_in slots area) s) words) where
      behind : (t : ℕ) → s < t → t < slots → is_marked m (slot_of (base_in slots area) t + 18) ≡ false
      behind t from lt = blank_slot m (slot_of (base_in slots area) t) (are.free t (omega (arith, from)) lt)

      -- with it, it is the write
      pub put_written : (first : ℕ) (run : List ℕ) → first + length run ≤ 16
          → ((k : ℕ) → k < 16 → slice_index words k
          ≡ slice_index (written (words_of pages slots m) (16 * page + first) run)
          (16 * page + k))
          → words_of pages slots after ≡ written (words_of pages slots m) (16 * page + first) run
      put_written first run fits each = words_written pages slots m after
          (base_in slots area) home turn page first run within fits
          (λ p k small other lt. word_kept m after (base_in slots area) s elsewhere free slots p k (omega (arith, lt))
          (put_other m after (base_in slots area) s elsewhere words slots page size below names behind put p other))
          (λ k lt. put_word m after (base_in slots area) s elsewhere words slots page size below names behind put k lt
          ∙ each
          k lt)

      -- and the table has it
      pub put_index : (table : List ℕ) → length table ≡ pages → IsPageTable pages m (base_in slots area) slots table
          → IsPageTable pages after (base_in slots area) slots (slice_set table page (s + 1))
      put_index table all index = record {
        each = λ p lt. ⊎_elim
            (λ (e : p ≡ page).
            let one : s + 1 ≡ suc s = omega arith in
            ap (λ (k : ℕ). slice_index (slice_set table page (s + 1)) k) e
            ∙ get_or-set_same table page (s + 1) 0 (omega (arith, all, within)) ∙ one
            ∙ sym (ap (λ (k : ℕ). find after (base_in slots area) slots k) e
            ∙ put_found m after (base_in slots area) s elsewhere words slots page size below names behind put))
            (λ (other : p ≢ page).
            get_or-set_other table page p (s + 1) 0 other ∙ index.each p lt
            ∙ sym (find_kept m after (base_in slots area) s elsewhere free slots p
            (put_other m after (base_in slots area) s elsewhere words slots page size below names behind put p other)))
            (cases_eq p page);
      }

    -- the slots behind it are free
    pub free_behind : AreFree after (base_in slots area) (s + 1) slots
    free_behind = record {
      within = omega (arith, below);
      free = λ t from lt. let past : slot_of (base_in slots area) s + 20 ≤ slot_of (base_in slots area) t =
          omega (arith, from) in
          blank_same m after (slot_of (base_in slots area) t) 20 (slot_of (base_in slots area) s) 20 elsewhere
          (inr past)
          (are.free t (omega (arith, from)) lt);
    }

  -- What a run leaves that is put into the record of its page: the words are as before, or it is written.
  module _ (m after : List ℕ) (area s page first : ℕ) (run old words : List ℕ) (below : s < slots)
      (home : base_in slots area ≡ base_in slots (turn_of slots m)) (are : AreFree m (base_in slots area) s slots)
      (size : length words ≡ 18)
      (within : page < pages) (fits : first + length run ≤ 16)
      (was : (k : ℕ) → k < 16 → slice_index old k ≡ page_word m (base_in slots area) slots page k)
      (named : slice_index old 16 ≡ page)
      (other : (k : ℕ) → (k < first) ⊎ (first + length run ≤ k) → slice_index words k ≡ slice_index old k)
      (over : (k : ℕ) → k < length run → slice_index words (first + k) ≡ slice_index run k) where
    names : slice_index words 16 ≡ page
    names = other 16 (inr fits) ∙ named

    pub run_marks : PutsInSlot m (slot_of (base_in slots area) s) words after → SameMarks slots m after
    run_marks puts = slot_marks slots m after area s below puts.elsewhere

    pub run_done : PutsInSlot m (slot_of (base_in slots area) s) words after
        → IsPut after (slot_of (base_in slots area) s) words
        → words_of pages slots after ≡ written (words_of pages slots m) (16 * page + first) run
    run_done puts put =
        put_written m after area s puts.elsewhere below home are words page size within names put first run fits
        (overlaid pages slots m after (base_in slots area) home
        (turn_same slots m after (run_marks puts)) page first run within fits old words
        was other over)

    pub run_whole : PutsInSlot m (slot_of (base_in slots area) s) words after
        → (words_of pages slots after ≡ words_of pages slots m)
        ⊎ (words_of pages slots after ≡ written (words_of pages slots m) (16 * page + first) run)
    run_whole puts = ⊎_elim
        (λ (none : is_marked after (slot_of (base_in slots area) s + 18) ≡ false).
        inl (unmarked_same m after area s puts.elsewhere below home are none))
        (λ (put : IsPut after (slot_of (base_in slots area) s) words). inr (run_done puts put))
        puts.whole

    -- no page is lost
    pub run_held : PutsInSlot m (slot_of (base_in slots area) s) words after → (p : ℕ)
        → find after (base_in slots area) slots p ≡ 0 → find m (base_in slots area) slots p ≡ 0
    run_held puts p none =
        let base = base_in slots area in
        let was_free = free m after area s puts.elsewhere below home are in
        ⊎_elim
        (λ (unmarked : is_marked after (slot_of base s + 18) ≡ false).
        sym (find_kept m after base s puts.elsewhere was_free slots p (holds_none after base s p unmarked)) ∙ none)
        (λ (put : IsPut after (slot_of base s) words).
        let past = behind m after area s puts.elsewhere below home are words page size within names put in
        ⊎_elim
        (λ (e : p ≡ page).
        let there : suc s ≡ 0 = sym (put_found m after base s puts.elsewhere words slots page size below names past put)
        ∙ ap (λ (q : ℕ). find after base slots q) (sym e) ∙ none in
        absurd (omega (arith, there)))
        (λ (other : p ≢ page). sym (find_kept m after base s puts.elsewhere was_free slots p
        (put_other m after base s puts.elsewhere words slots page size below names past put p other)) ∙ none)
        (cases_eq p page))
        puts.whole

    pub run_index : (table : List ℕ) → length table ≡ pages → IsPageTable pages m (base_in slots area) slots table
        → PutsInSlot m (slot_of (base_in slots area) s) words after → IsPut after (slot_of (base_in slots area) s) words
        → IsPageTable pages after (base_in slots area) slots (slice_set table page (s + 1))
    run_index table all index puts put =
        put_index m after area s puts.elsewhere below home are words page size within names put table all index

    -- the record is the page's last
    pub run_last : PutsInSlot m (slot_of (base_in slots area) s) words after
        → IsPut after (slot_of (base_in slots area) s) words → find after (base_in slots area) slots page ≡ s + 1
    run_last puts put =
        let base = base_in slots area in
        let past = behind m after area s puts.elsewhere below home are words page size within names put in
        let last = put_found m after base s puts.elsewhere words slots page size below names past put in
        omega (arith, last)
