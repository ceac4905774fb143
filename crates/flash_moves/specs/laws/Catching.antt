-- Laws of the page whose copy in the other area is older: it is copied again before the next step.
use Rattle.std.specs.Prelude.{◌≡◌, ◌≢◌, ◌⊎◌, ◌<◌, ◌≤◌, ◌+◌, ◌*◌, ℕ, List, length, slice_index}
use Rattle.std.proofs.Common.{true, refl, sym, ◌∙◌, ap, ⊎_elim, subst, arith}
use Rattle.std.proofs.lemmas.Bool.{cases_lt}
use Rattle.nvm_board.specs.History.{written}
use Rattle.flash_moves.specs.declared.place.PageMap.{PageMap}
use Rattle.flash_device.specs.declared.layout.TheConstants.{STEP_PAGES}
use Rattle.flash_device.specs.FlashBlocks.{area_size, witness_start}
use Rattle.flash_device.specs.FlashCalls.{SameElsewhere}
use Rattle.flash_device.specs.FlashLogs.{base_in, find, page_word, slot_of, words_of}
use Rattle.flash_device.specs.PageTables.{AreFree}
use Rattle.flash_device.specs.PutRecords.{IsPut}
use Rattle.flash_device.specs.laws.Marks.{elsewhere_wider}
use Rattle.flash_area.specs.PageCopies.{KeepsOthers}
use Rattle.flash_area.specs.Spares.{HasCopies, IsSpare, spare_in}
use Rattle.flash_area.specs.laws.Copying.{SameArea, area_free}
use Rattle.flash_area.specs.laws.Words.{index-page, written_other}
use Rattle.flash_moves.specs.Paces.{HasStepped, IsInPaceFrom, KeepsPace, OwnsOlder}
use Rattle.flash_moves.specs.Places.{IsLog, IsPlaceOf}
use Rattle.flash_moves.specs.Rings.{IsRing, SameMarks}
use Rattle.flash_moves.specs.laws.Losing.{in_pace_from, put_in_pace}
use Rattle.flash_moves.specs.laws.Moving.{Stays}
use Rattle.flash_moves.specs.laws.Sparing.{copies_put, copies_torn, home_held, home_leaves, index_same, spare_all}
use Rattle.flash_moves.specs.laws.Sparing.{spare_leaves, spare_put, spare_same, spare_stays, spare_written}

module _ {T : Type 0} (entries : T → List ℕ) (pages slots sectors : ℕ) (start : ℕ → ℕ) (m : List ℕ) (p : PageMap T)
    (page : ℕ) (at : IsPlaceOf entries pages slots sectors start m p) (some : 0 < sectors)
    (older : page + 1 ≡ p.older) where
  -- it is one of those copied, so the move is under way
  pub older_below : page < STEP_PAGES * p.copied
  older_below = let few = at.spare.few in omega (arith, older, few)

  pub older_all : p.erased ≡ sectors
  older_all = let few = at.spare.few in
      spare_all pages slots sectors start m (words_of pages slots m) p.turn p.erased p.copied p.behind p.older
      (omega (arith, older, few)) at.spare

  pub older_moves : p.turn ≢ 1
  older_moves = λ one. let none = at.spare.idle one in let all = older_all in absurd (omega (arith, none, all, some))

  pub older_page : page < pages
  older_page = let below = older_below in let most = at.spare.most in omega (arith, below, most)

  pub older_has : HasCopies pages slots m (words_of pages slots m) (base_in slots p.turn) (spare_in slots p.turn)
      (STEP_PAGES * p.copied) p.behind p.older
  older_has = at.spare.copies older_all

  -- It is put into the other area, or its record is torn.
  module _ (after : List ℕ) (ring : IsRing slots m)
      (elsewhere : SameElsewhere m (spare_in slots p.turn) (20 * slots) after) where
    wide : SameElsewhere m (spare_in slots p.turn) (area_size slots) after
    wide = elsewhere_wider m after (spare_in slots p.turn) (20 * slots) (spare_in slots p.turn) (area_size slots)
        (omega arith) (omega arith) elsewhere

    pub older_stays : Stays pages slots m after
    older_stays = spare_stays pages slots m after p.turn ring at.turn at.small older_moves wide

    area : SameArea slots m after (base_in slots p.turn)
    area = spare_leaves slots m after p.turn wide

    -- at every exit it takes at most one slot, and those that failed
    pub older_lost : (extra failed : ℕ) → KeepsOthers slots m (spare_in slots p.turn) page after (p.behind + 1 + failed)
        → KeepsPace pages slots sectors extra p
        → IsInPaceFrom pages slots sectors start after (extra + (failed + 1)) p.tried
    older_lost extra failed kept pace =
        let n = p.behind + 1 + failed in
        let has : HasCopies pages slots after (words_of pages slots after) (base_in slots p.turn)
        (spare_in slots p.turn)
        (STEP_PAGES * p.copied) n p.older =
        subst (λ (l : List ℕ). HasCopies pages slots after l (base_in slots p.turn) (spare_in slots p.turn)
        (STEP_PAGES * p.copied) n p.older) (sym older_stays.words)
        (copies_torn pages slots m after (words_of pages slots m) (base_in slots p.turn) (spare_in slots p.turn) page
        (STEP_PAGES * p.copied) p.behind p.older n older_has elsewhere
        (home_held slots m after p.turn elsewhere) kept (λ lt. older) (λ none. older_below)) in
        in_pace_from pages slots sectors start after (extra + (failed + 1)) p.turn p.erased p.copied n p.older p.next
        p.tried (at.turn ∙ sym older_stays.turn)
        (spare_put pages slots sectors start m after (words_of pages slots m)
        (words_of pages slots after) p.turn p.erased
        p.copied p.behind p.older n p.older at.spare at.spare.few has older_all)
        (area_free slots m after (base_in slots p.turn) area p.next at.free) pace.room
        (let few = pace.few in omega (arith, few)) pace.passed

    -- once it is put, no copy is older
    pub older_put : (s : ℕ) (record_words : List ℕ) → IsPut after (slot_of (spare_in slots p.turn) s) record_words
        → KeepsOthers slots m (spare_in slots p.turn) page after (s + 1) → s < slots → length record_words ≡ 18
        → slice_index record_words 16 ≡ page
        → ((k : ℕ) → k < 16 → slice_index record_words k ≡ page_word m (base_in slots p.turn) slots page k)
        → p.tried ≤ p.next
        → IsLog entries pages slots sectors start after (record p { ready = true; behind = s + 1; older = 0 })
    older_put s record_words put kept below size names each passed =
        let has : HasCopies pages slots after (words_of pages slots after) (base_in slots p.turn)
        (spare_in slots p.turn)
        (STEP_PAGES * p.copied) (s + 1) 0 =
        subst (λ (l : List ℕ). HasCopies pages slots after l (base_in slots p.turn) (spare_in slots p.turn)
        (STEP_PAGES * p.copied) (s + 1) 0) (sym older_stays.words)
        (copies_put pages slots m after (words_of pages slots m) (base_in slots p.turn) (spare_in slots p.turn) page
        (STEP_PAGES * p.copied) (STEP_PAGES * p.copied) p.behind p.older s record_words older_has elsewhere
        (home_held slots m after p.turn elsewhere) put kept below size names
        (λ q lt other. (lt, λ e. other (omega (arith, e, older))))
        (λ q from. (from, λ e. let lt = older_below in absurd (omega (arith, e, lt, from))))
        (λ k few. each k few ∙ ap (λ (t : ℕ). page_word m (base_in slots t) slots page k) at.turn
        ∙ sym (index-page pages slots m page k older_page few))) in
        record {
          ring = older_stays.ring;
          passed = let within = at.free.within in omega (arith, passed, within);
          known = λ _. record {
            turn = at.turn ∙ sym older_stays.turn;
            small = at.small;
            index = index_same slots pages m after (entries p.table) (base_in slots p.turn) area at.index;
            free = area_free slots m after (base_in slots p.turn) area p.next at.free;
            spare = spare_put pages slots sectors start m after (words_of pages slots m)
                (words_of pages slots after) p.turn
                p.erased p.copied p.behind p.older (s + 1) 0 at.spare (omega arith) has older_all;
          };
        }

module _ {T : Type 0} (entries : T → List ℕ) (pages slots sectors : ℕ) (start : ℕ → ℕ)
    (rise : (s : ℕ) → start s ≤ start (s + 1)) (first_sector : start 0 ≡ 0) (second : start sectors ≡ area_size slots)
    (third : start (2 * sectors) ≡ witness_start slots) (some : 0 < sectors) (m after : List ℕ) (p : PageMap T)
    (at : IsPlaceOf entries pages slots sectors start m p)
    (elsewhere : SameElsewhere m (base_in slots p.turn) (20 * slots) after)
    (held : (q : ℕ) → find after (base_in slots p.turn) slots q ≡ 0 → find m (base_in slots p.turn) slots q ≡ 0) where
  -- a write of the area in use leaves the other area
  same_spare : IsSpare pages slots sectors start after (words_of pages slots m) p.turn p.erased p.copied p.behind
      p.older
  same_spare = spare_same pages slots sectors start rise first_sector second third some m after (words_of pages slots m)
      p.turn p.erased p.copied p.behind p.older (home_leaves slots m after p.turn elsewhere) held at.spare

  module _ (page first : ℕ) (run : List ℕ) (fits : first + length run ≤ 16) (own : OwnsOlder page p) where
    -- once it is done, the copy of its page is older, if it has one
    pub run_spare : (o : ℕ) → (page < STEP_PAGES * p.copied → o ≡ page + 1) → (STEP_PAGES * p.copied ≤ page → o ≡ 0)
        → words_of pages slots after ≡ written (words_of pages slots m) (16 * page + first) run
        → IsSpare pages slots sectors start after (words_of pages slots after) p.turn p.erased p.copied p.behind o
    run_spare o copied left done =
        let old = words_of pages slots m in
        subst (λ (l : List ℕ). IsSpare pages slots sectors start after l p.turn p.erased p.copied p.behind o) (sym done)
        (spare_written pages slots sectors start after old (written old
        (16 * page + first) run) p.turn p.erased p.copied
        p.behind page p.older o own same_spare (λ q k other few. written_other old run page first q k other few fits)
        copied left)

    -- so the flash stays in pace, whether it is done or torn
    pub run_in_pace : (extra tried : ℕ) → tried ≤ p.next + 1 → HasStepped pages slots sectors extra p
        → SameMarks slots m after
        → AreFree after (base_in slots p.turn) (p.next + 1) slots
        → (words_of pages slots after ≡ words_of pages slots m)
        ⊎ (words_of pages slots after ≡ written (words_of pages slots m) (16 * page + first) run)
        → IsInPaceFrom pages slots sectors start after extra tried
    run_in_pace extra tried passed stepped marks free = ⊎_elim
        (λ (same : words_of pages slots after ≡ words_of pages slots m).
        put p.older (subst (λ (l : List ℕ). IsSpare pages slots sectors start after l p.turn p.erased p.copied p.behind
        p.older) (sym same) same_spare))
        (λ (done : words_of pages slots after ≡ written (words_of pages slots m) (16 * page + first) run). ⊎_elim
        (λ (lt : page < STEP_PAGES * p.copied).
        put (page + 1) (run_spare (page + 1) (λ is. refl) (λ ge. absurd (omega (arith, lt, ge))) done))
        (λ (ge : STEP_PAGES * p.copied ≤ page).
        put 0 (run_spare 0 (λ lt. absurd (omega (arith, lt, ge))) (λ is. refl) done))
        (cases_lt page (STEP_PAGES * p.copied)))
      where
        put : (o : ℕ)
            → IsSpare pages slots sectors start after (words_of pages slots after) p.turn p.erased p.copied p.behind o
            → IsInPaceFrom pages slots sectors start after extra tried
        put o = put_in_pace pages slots sectors extra start rise first_sector second third some entries m after p o
            tried passed at stepped marks free
