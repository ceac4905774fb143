-- Laws of a sector that is erased, and filled with copies.
use Rattle.std.specs.Prelude.{◌≡◌, ◌≢◌, ◌<◌, ◌≤◌, ◌+◌, ◌-◌, ◌*◌, ℕ, suc, Bool, true, false, List, length, ◌&&◌, nat_eq}
use Rattle.std.specs.Prelude.{slice_index}
use Rattle.std.proofs.Common.{refl, sym, ◌∙◌, ap, inl, inr, ⊎_elim, arith}
use Rattle.std.proofs.lemmas.Bool.{cases_eq}
use Rattle.flash_device.specs.declared.flash.TheConstants.{BLANK}
use Rattle.flash_device.specs.declared.layout.TheConstants.{FIRST_MARK, SECOND_MARK}
use Rattle.flash_device.specs.FlashBlocks.{area_size, witness_start}
use Rattle.flash_device.specs.FlashCalls.{AreFilled, SameElsewhere}
use Rattle.flash_device.specs.FlashLogs.{base_in, close_b, find, is_marked, page_word, slot_of, turn_of, word_of}
use Rattle.flash_device.specs.FlashLogs.{words_of}
use Rattle.flash_device.specs.PageTables.{AreFree}
use Rattle.flash_device.specs.PutRecords.{IsPut}
use Rattle.flash_device.specs.laws.Finding.{find-past}
use Rattle.flash_device.specs.laws.Marks.{closed_same, elsewhere_wider}
use Rattle.flash_device.specs.laws.Putting.{holds_none}
use Rattle.flash_device.specs.laws.Rising.{rises_to}
use Rattle.flash_area.specs.PageCopies.{KeepsOthers}
use Rattle.flash_area.specs.Spares.{spare_in, spare_sector}
use Rattle.flash_area.specs.laws.Copying.{SameArea, area_found, area_page, last_found}
use Rattle.flash_area.specs.laws.Words.{index-page, words_same}
use Rattle.flash_moves.specs.Rings.{SameMarks}
use Rattle.flash_moves.specs.laws.Sparing.{sides, spare_leaves}
use Rattle.flash_moves.specs.laws.Turns.{turn_same}
use Rattle.sector_moves.specs.SectorSpares.{HasSectorCopies, PutsPage, spare_slot, spare_slots}
use Rattle.sector_moves.specs.laws.Sizing.{begins_behind, ends_before, last_behind}

-- What changes in the slots of the other area leaves the turn and the words.
module _ (pages slots : ℕ) (m after : List ℕ) (turn : ℕ)
    (h : SameElsewhere m (spare_in slots turn) (20 * slots) after) where
  -- the area in use stays
  pub home_same : SameArea slots m after (base_in slots turn)
  home_same = spare_leaves slots m after turn (elsewhere_wider m after (spare_in slots turn) (20 * slots)
      (spare_in slots turn) (area_size slots) (omega arith) (omega arith) h)

  marks_same : SameMarks slots m after
  marks_same = ⊎_elim
      (λ (z : (base_in slots turn ≡ 0) × (spare_in slots turn ≡ area_size slots)).
      let there = z.1 in
      let a : 20 * slots + 2 ≤ spare_in slots turn = omega (arith, there) in
      let b : spare_in slots turn + 20 * slots ≤ close_b slots = omega (arith, there) in
      let c : spare_in slots turn + 20 * slots ≤ witness_start slots = omega (arith, there) in record {
        a = closed_same m after (20 * slots) (spare_in slots turn) (20 * slots) h (inl a);
        b = closed_same m after (close_b slots) (spare_in slots turn) (20 * slots) h (inr b);
        c = closed_same m after (witness_start slots) (spare_in slots turn) (20 * slots) h (inr c);
      })
      (λ (z : (base_in slots turn ≡ area_size slots) × (spare_in slots turn ≡ 0)).
      let there = z.1 in
      let a : spare_in slots turn + 20 * slots ≤ 20 * slots = omega (arith, there) in
      let b : spare_in slots turn + 20 * slots ≤ close_b slots = omega (arith, there) in
      let c : spare_in slots turn + 20 * slots ≤ witness_start slots = omega (arith, there) in record {
        a = closed_same m after (20 * slots) (spare_in slots turn) (20 * slots) h (inr a);
        b = closed_same m after (close_b slots) (spare_in slots turn) (20 * slots) h (inr b);
        c = closed_same m after (witness_start slots) (spare_in slots turn) (20 * slots) h (inr c);
      })
      (sides slots turn)

  pub turn_stays : turn_of slots after ≡ turn_of slots m
  turn_stays = turn_same slots m after marks_same

  pub words_stay : turn ≡ turn_of slots m → words_of pages slots after ≡ words_of pages slots m
  words_stay is = words_same pages slots m after (base_in slots turn) (ap (base_in slots) is) turn_stays
      (λ p k below few. area_page slots m after (base_in slots turn) home_same p k few)

-- a run of slots lies within the slots of its area
pub in_slots : (slots : ℕ) (m after : List ℕ) (base next end : ℕ) → next ≤ end → end ≤ slots
    → SameElsewhere m (slot_of base next) (20 * (end - next)) after → SameElsewhere m base (20 * slots) after
in_slots slots m after base next end le most h = elsewhere_wider m after (slot_of base next) (20 * (end - next))
    base (20 * slots) (omega arith) (omega (arith, le, most)) h

-- a record that is put is a page that is put
pub puts_page : (slots : ℕ) (m after : List ℕ) (home base below page s : ℕ) (words : List ℕ)
    → KeepsOthers below m base page after (s + 1) → IsPut after (slot_of base s) words → s < below
    → length words ≡ 18 → slice_index words 16 ≡ page
    → ((k : ℕ) → k < 16 → slice_index words k ≡ page_word m home slots page k)
    → PutsPage slots m home base below page after (s + 1)
puts_page slots m after home base below page s words kept put lt size names each =
    let found : find after base below page ≡ suc s =
    last_found below after base s page words put size names lt kept.free in record {
      same = λ k few.
          ap (λ (f : ℕ). word_of after base f k) found ∙ put.there.each k (omega (arith, size, few)) ∙ each k few;
      others = kept.others;
      found = kept.found;
      free = kept.free;
    }

-- A page is put into the other area: that of the next copy, or of one that may be older.
module _ (pages slots : ℕ) (m after words : List ℕ) (turn base below page next : ℕ) (is : turn ≡ turn_of slots m)
    (named : words ≡ words_of pages slots m)
    (puts : PutsPage slots m (base_in slots turn) base below page after next) (inside : page < pages)
    (same : SameArea slots m after (base_in slots turn)) where
  here : (p k : ℕ) → p ≡ page → k < 16 → page_word after base below p k ≡ slice_index words (16 * p + k)
  here p k e few = ap (λ (q : ℕ). page_word after base below q k) e ∙ puts.same k few
      ∙ ap (λ (b : ℕ). page_word m b slots page k) (ap (base_in slots) is)
      ∙ sym (index-page pages slots m page k inside few)
      ∙ ap (λ (l : List ℕ). slice_index l (16 * page + k)) (sym named)
      ∙ sym (ap (λ (q : ℕ). slice_index words (16 * q + k)) e)

  held : (p : ℕ) → find after (base_in slots turn) slots p ≡ 0 → find m (base_in slots turn) slots p ≡ 0
  held p none = sym (area_found slots m after (base_in slots turn) same p) ∙ none

  pub older_copied : (copied older : ℕ) → older ≡ page + 1 → older ≤ copied
      → HasSectorCopies pages slots m words (base_in slots turn) base below copied older
      → HasSectorCopies pages slots after words (base_in slots turn) base below copied 0
  older_copied copied older one few_older has = record {
    each = λ p k lt but few. ⊎_elim
        (λ (e : p ≡ page). here p k e few)
        (λ (other : p ≢ page). puts.others p k other few
        ∙ has.each p k lt (λ e. other (omega (arith, e, one))) few)
        (cases_eq p page);
    left = λ p from lt none.
        let other : p ≢ page = λ e. absurd (omega (arith, e, from, few_older, one)) in
        puts.found p other ∙ has.left p from lt (held p none);
  }

  pub page_copied : HasSectorCopies pages slots m words (base_in slots turn) base below page 0
      → HasSectorCopies pages slots after words (base_in slots turn) base below (page + 1) 0
  page_copied has = record {
    each = λ p k lt but few. ⊎_elim
        (λ (e : p ≡ page). here p k e few)
        (λ (other : p ≢ page). puts.others p k other few
        ∙ has.each p k (omega (arith, lt, other)) but few)
        (cases_eq p page);
    left = λ p from lt none.
        let other : p ≢ page = λ e. absurd (omega (arith, e, from)) in
        puts.found p other ∙ has.left p (omega (arith, from)) lt (held p none);
  }

-- a page that was never written needs no copy
pub past_copied : (pages slots : ℕ) (m words : List ℕ) (turn base below page : ℕ) → turn ≡ turn_of slots m
    → words ≡ words_of pages slots m → find m (base_in slots turn) slots page ≡ 0 → page < pages
    → HasSectorCopies pages slots m words (base_in slots turn) base below page 0
    → HasSectorCopies pages slots m words (base_in slots turn) base below (page + 1) 0
past_copied pages slots m words turn base below page is named none inside has = record {
  each = λ p k lt but few. ⊎_elim
      (λ (e : p ≡ page).
      let lacks : find m (base_in slots turn) slots p ≡ 0 =
      ap (λ (q : ℕ). find m (base_in slots turn) slots q) e ∙ none in
      let within : p < pages = omega (arith, e, inside) in
      let here : find m base below p ≡ 0 = has.left p (omega (arith, e)) within lacks in
      let there : find m (base_in slots (turn_of slots m)) slots p ≡ 0 =
      ap (λ (t : ℕ). find m (base_in slots t) slots p) (sym is) ∙ lacks in
      ap (λ (f : ℕ). word_of m base f k) here
      ∙ sym (ap (λ (l : List ℕ). slice_index l (16 * p + k)) named ∙ index-page pages slots m p k within few
      ∙ ap (λ (f : ℕ). word_of m (base_in slots (turn_of slots m)) f k) there))
      (λ (other : p ≢ page). has.each p k (omega (arith, lt, other)) but few)
      (cases_eq p page);
  left = λ p from lt lacks. has.left p (omega (arith, from)) lt lacks;
}

-- A mark is none if its second word is blank.
pub blank_second : (m : List ℕ) (at : ℕ) → slice_index m (at + 1) ≡ BLANK → is_marked m at ≡ false
unfolding is_marked
blank_second m at e = ap (λ (w : ℕ). nat_eq (slice_index m at) FIRST_MARK && nat_eq w SECOND_MARK) e
    ∙ none (nat_eq (slice_index m at) FIRST_MARK)
  where
    none : (b : Bool) → (b && false) ≡ false
    none true = refl
    none false = refl

-- More slots of an area are looked at, which have no mark: the copies are the same.
module _ (pages slots : ℕ) (m after words : List ℕ) (home base low high : ℕ) (le : low ≤ high)
    (same : SameArea low m after base)
    (none : (s : ℕ) → low ≤ s → s < high → is_marked after (slot_of base s + 18) ≡ false)
    (held : (p : ℕ) → find after home slots p ≡ 0 → find m home slots p ≡ 0) where
  past : (p : ℕ) → find after base high p ≡ find after base low p
  past p = find-past after base high p low le (λ t from lt. holds_none after base t p (none t from lt))

  pub widen : (copied older : ℕ) → HasSectorCopies pages slots m words home base low copied older
      → HasSectorCopies pages slots after words home base high copied older
  widen copied older has = record {
    each = λ p k lt but few. ap (λ (f : ℕ). word_of after base f k) (past p)
        ∙ area_page low m after base same p k few ∙ has.each p k lt but few;
    left = λ p from lt lacks. past p ∙ area_found low m after base same p ∙ has.left p from lt (held p lacks);
  }

-- the slots from a later sector on begin later
pub slot_rises : (start : ℕ → ℕ) (slots sectors : ℕ) → ((s : ℕ) → start s ≤ start (s + 1)) → (turn n k : ℕ) → n ≤ k
    → spare_slot slots sectors start turn n ≤ spare_slot slots sectors start turn k
slot_rises start slots sectors rise turn n k le =
    let up = rises_to start rise (spare_sector sectors turn + n) (spare_sector sectors turn + k) (omega (arith, le)) in
    omega (arith, up)

-- The sector of a step is erased.
module _ (pages slots sectors : ℕ) (start : ℕ → ℕ) (m after : List ℕ) (turn n : ℕ)
    (low : spare_in slots turn ≤ start (spare_sector sectors turn + n))
    (rises : start (spare_sector sectors turn + n) ≤ start (spare_sector sectors turn + (n + 1)))
    (filled : AreFilled after (start (spare_sector sectors turn + n))
    (start (spare_sector sectors turn + (n + 1)) - start (spare_sector sectors turn + n)) BLANK) where
  -- so the slots that begin in it are free
  pub step_free : spare_slot slots sectors start turn n ≤ spare_slots slots sectors start turn (n + 1)
      → AreFree after (spare_in slots turn) (spare_slot slots sectors start turn n)
      (spare_slots slots sectors start turn (n + 1))
  step_free some = record {
    within = some;
    free = λ s from lt. record {
      each = λ k few.
          let base = spare_in slots turn in
          let sector = spare_sector sectors turn + n in
          let next = spare_sector sectors turn + (n + 1) in
          let begins = begins_behind start base sector s from in
          let ends = ends_before start base next s lt in
          let place : start sector + (slot_of base s + k - start sector) ≡ slot_of base s + k = omega (arith, begins) in
          ap (λ (j : ℕ). slice_index after j) (sym place)
          ∙ filled.each (slot_of base s + k - start sector) (omega (arith, begins, ends, few));
    };
  }

  -- and no slot that ends in it has a mark
  unmarked : (s : ℕ) → spare_slots slots sectors start turn n ≤ s → s < spare_slots slots sectors start turn (n + 1)
      → is_marked after (slot_of (spare_in slots turn) s + 18) ≡ false
  unmarked s from lt =
      let base = spare_in slots turn in
      let sector = spare_sector sectors turn + n in
      let next = spare_sector sectors turn + (n + 1) in
      let behind = last_behind start base sector s from in
      let ends = ends_before start base next s lt in
      let place : start sector + (slot_of base s + 19 - start sector) ≡ slot_of base s + 18 + 1 =
      omega (arith, behind) in
      blank_second after (slot_of base s + 18) (ap (λ (j : ℕ). slice_index after j) (sym place)
      ∙ filled.each (slot_of base s + 19 - start sector) (omega (arith, behind, ends)))

  -- so the copies are the same, by the slots that end before the sector or in it
  pub step_widens : (words : List ℕ) (copied older : ℕ)
      → SameElsewhere m (start (spare_sector sectors turn + n))
      (start (spare_sector sectors turn + (n + 1)) - start (spare_sector sectors turn + n)) after
      → SameArea slots m after (base_in slots turn)
      → HasSectorCopies pages slots m words (base_in slots turn) (spare_in slots turn)
      (spare_slots slots sectors start turn n) copied older
      → HasSectorCopies pages slots after words (base_in slots turn) (spare_in slots turn)
      (spare_slots slots sectors start turn (n + 1)) copied older
  step_widens words copied older h same = widen pages slots m after words (base_in slots turn) (spare_in slots turn)
      (spare_slots slots sectors start turn n) (spare_slots slots sectors start turn (n + 1)) (omega (arith, rises))
      (record {
        each = λ k from lt.
            let before : k < start (spare_sector sectors turn + n) = omega (arith, from, lt, low) in
            h.same k (inl before);
      })
      unmarked
      (λ p none. sym (area_found slots m after (base_in slots turn) same p) ∙ none) copied older
