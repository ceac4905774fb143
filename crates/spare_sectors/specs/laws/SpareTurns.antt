-- What an entry changes of the map: at most the sector that it names.
use Rattle.std.specs.Prelude.{◌≡◌, ◌≢◌, ◌⊎◌, ◌<◌, ◌≤◌, ◌+◌, ◌*◌, ◌/◌, ◌%◌, ℕ, suc, Bool, true, false, List}
use Rattle.std.specs.Prelude.{◌&&◌, max, nat_eq, slice_index}
use Rattle.std.proofs.Common.{refl, sym, ◌∙◌, ap₂, inl, inr, subst, ⊎_elim, arith, true≢false}
use Rattle.std.proofs.lemmas.Bool.{cases_lt, eq-eqb, ne_eqb}
use Rattle.flash_device.specs.declared.flash.TheConstants.{BLANK}
use Rattle.flash_device.specs.FlashCalls.{AreFilled, SameElsewhere}
use Rattle.flash_device.specs.FlashLogs.{find, is_marked, slot_of}
use Rattle.flash_device.specs.PageTables.{AreFree}
use Rattle.flash_device.specs.laws.Finding.{find-past, find-top}
use Rattle.flash_device.specs.laws.Marks.{blank_part, blank_same, blank_slot, elsewhere_then, elsewhere_wider}
use Rattle.flash_device.specs.laws.Marks.{mark_same}
use Rattle.flash_device.specs.laws.Putting.{find_kept, holds_none}
use Rattle.spare_sectors.specs.SpareMaps.{MovesOnly}
use Rattle.spare_sectors.specs.SpareStates.{IsEntryRun}

-- the number of an entry, and its mark
pub number_entry : (entry at : ℕ) → at ≡ slot_of 0 entry → IsEntryRun (at + 16) 1
number_entry entry at is =
    let number : (at + 16) % 20 ≡ 16 = omega (arith, is) in record { is = inl (number, refl) }

pub mark_entry : (entry at : ℕ) → at ≡ slot_of 0 entry → IsEntryRun (at + 18) 2
mark_entry entry at is =
    let mark : (at + 18) % 20 ≡ 18 = omega (arith, is) in record { is = inr (mark, refl) }

module _ (spares entry sector : ℕ) (m after : List ℕ) (below : entry < spares) (are : AreFree m 0 entry spares)
    (elsewhere : SameElsewhere m (slot_of 0 entry) 20 after) where
  free : is_marked m (slot_of 0 entry + 18) ≡ false
  free = blank_slot m (slot_of 0 entry) (are.free entry (omega arith) below)

  -- an entry without its mark moves nothing
  pub unmarked_moves : is_marked after (slot_of 0 entry + 18) ≡ false → MovesOnly spares m sector after
  unmarked_moves none = record {
    others = λ s other. find_kept m after 0 entry elsewhere free spares s (holds_none after 0 entry s none);
  }

  -- with it, or with what is like it, it moves the sector that it names
  pub named_moves : slice_index after (slot_of 0 entry + 16) ≡ sector → MovesOnly spares m sector after
  named_moves names = record {
    others = λ s other. find_kept m after 0 entry elsewhere free spares s
        (holds_other (is_marked after (slot_of 0 entry + 18)) s other);
  }
    where
      holds_other : (b : Bool) (s : ℕ) → s ≢ sector → b && nat_eq (slice_index after (slot_of 0 entry + 16)) s ≡ false
      holds_other true s other = ne_eqb _ s (λ e. other (sym e ∙ names))
      holds_other false s other = refl

  -- the entries behind it are free
  pub entries_free : AreFree after 0 (entry + 1) spares
  entries_free = record {
    within = omega (arith, below);
    free = λ t from lt. let past : slot_of 0 entry + 20 ≤ slot_of 0 t = omega (arith, from) in
        blank_same m after (slot_of 0 t) 20 (slot_of 0 entry) 20 elsewhere (inr past)
        (are.free t (omega (arith, from)) lt);
  }

  -- it is the last one that names the sector
  pub entry_found : is_marked after (slot_of 0 entry + 18) ≡ true → slice_index after (slot_of 0 entry + 16) ≡ sector
      → find after 0 spares sector ≡ entry + 1
  entry_found marked names =
      let one : suc entry ≡ entry + 1 = omega arith in
      find-past after 0 spares sector (suc entry) (omega (arith, below))
      (λ t from lt. holds_none after 0 t sector
      (blank_slot after (slot_of 0 t) (entries_free.free t (omega (arith, from)) lt)))
      ∙ find-top after 0 entry sector (ap₂ (λ (a b : Bool). a && b) marked (eq-eqb _ _ names)) ∙ one

-- An entry gets a number, and then a mark.
module _ (spares entry sector at : ℕ) (m mid : List ℕ) (below : entry < spares) (are : AreFree m 0 entry spares)
    (is : at ≡ slot_of 0 entry) (number : SameElsewhere m (at + 16) 1 mid) where
  place_blank : AreFilled m at 20 BLANK
  place_blank = subst (λ (k : ℕ). AreFilled m k 20 BLANK) (sym is) (are.free entry (omega arith) below)

  number_within : SameElsewhere m (slot_of 0 entry) 20 mid
  number_within = subst (λ (k : ℕ). SameElsewhere m k 20 mid) is
      (elsewhere_wider m mid (at + 16) 1 at 20 (omega arith) (omega arith) number)

  no_mark_yet : is_marked mid (slot_of 0 entry + 18) ≡ false
  no_mark_yet = let out : at + 16 + 1 ≤ at + 18 = omega arith in
      subst (λ (k : ℕ). is_marked mid (k + 18) ≡ false) is
      (mark_same m mid (at + 18) (at + 16) 1 number (inr out) ∙ blank_slot m at place_blank)

  pub number_moves : MovesOnly spares m sector mid
  number_moves = unmarked_moves spares entry sector m mid below are number_within no_mark_yet

  -- and each sector lies where it lay
  pub number_keeps : (s : ℕ) → find mid 0 spares s ≡ find m 0 spares s
  number_keeps s = find_kept m mid 0 entry number_within
      (free spares entry sector m mid below are number_within) spares s (holds_none mid 0 entry s no_mark_yet)

  pub number_leaves : AreFree mid 0 (entry + 1) spares
  number_leaves = entries_free spares entry sector m mid below are number_within

  pub mark_blank : AreFilled mid (at + 18) 2 BLANK
  mark_blank = let out : at + 16 + 1 ≤ at + 18 = omega arith in
      blank_same m mid (at + 18) 2 (at + 16) 1 number (inr out) (blank_part m at 20 18 2 place_blank (omega arith))

  module _ (after : List ℕ) (names : slice_index mid (at + 16) ≡ sector) (mark : SameElsewhere mid (at + 18) 2 after)
    where
      entry_within : SameElsewhere m (slot_of 0 entry) 20 after
      entry_within = elsewhere_then m mid after (slot_of 0 entry) 20 number_within
          (subst (λ (k : ℕ). SameElsewhere mid k 20 after) is
          (elsewhere_wider mid after (at + 18) 2 at 20 (omega arith) (omega arith) mark))

      number_stays : slice_index after (slot_of 0 entry + 16) ≡ sector
      number_stays = let before : at + 16 < at + 18 = omega arith in
          subst (λ (k : ℕ). slice_index after (k + 16) ≡ sector) is (mark.same (at + 16) (inl before) ∙ names)

      pub mark_moves : MovesOnly spares m sector after
      mark_moves = named_moves spares entry sector m after below are entry_within number_stays

      -- with the mark, or with what is like it, the sector lies in the spare, and else where it lay
      pub mark_either : (find after 0 spares sector ≡ find m 0 spares sector)
          ⊎ (find after 0 spares sector ≡ entry + 1)
      mark_either = by_mark (is_marked after (slot_of 0 entry + 18)) refl
        where
          by_mark : (b : Bool) → is_marked after (slot_of 0 entry + 18) ≡ b
              → (find after 0 spares sector ≡ find m 0 spares sector) ⊎ (find after 0 spares sector ≡ entry + 1)
          by_mark true e = inr (entry_found spares entry sector m after below are entry_within e number_stays)
          by_mark false e = inl (find_kept m after 0 entry entry_within
              (free spares entry sector m after below are entry_within) spares sector (holds_none after 0 entry sector
              e))

      pub mark_leaves : AreFree after 0 (entry + 1) spares
      mark_leaves = entries_free spares entry sector m after below are entry_within

      pub mark_found : is_marked after (at + 18) ≡ true → find after 0 spares sector ≡ entry + 1
      mark_found marked = entry_found spares entry sector m after below are entry_within
          (subst (λ (k : ℕ). is_marked after (k + 18) ≡ true) is marked) number_stays

-- the place of the number of a free entry is blank
pub number_blank : (spares entry at : ℕ) (m : List ℕ) → entry < spares → AreFree m 0 entry spares
    → at ≡ slot_of 0 entry → AreFilled m (at + 16) 1 BLANK
number_blank spares entry at m below are is = blank_part m at 20 16 1
    (subst (λ (k : ℕ). AreFilled m k 20 BLANK) (sym is) (are.free entry (omega arith) below)) (omega arith)

-- a program was begun in an entry that has words, or behind it
pub used_begun : (spares begun entry k : ℕ) (m : List ℕ) → AreFree m 0 begun spares → entry < spares → k < 20
    → slice_index m (slot_of 0 entry + k) ≢ BLANK → entry + 1 ≤ begun
used_begun spares begun entry k m are below lt other = ⊎_elim
    (λ (under : entry < begun). omega (arith, under))
    (λ (past : begun ≤ entry). absurd (other ((are.free entry past below).each k lt)))
    (cases_lt entry begun)

pub marked_begun : (spares begun entry : ℕ) (m : List ℕ) → AreFree m 0 begun spares → entry < spares
    → is_marked m (slot_of 0 entry + 18) ≡ true → entry + 1 ≤ begun
marked_begun spares begun entry m are below marked = ⊎_elim
    (λ (under : entry < begun). omega (arith, under))
    (λ (past : begun ≤ entry).
    absurd (true≢false (sym marked ∙ blank_slot m (slot_of 0 entry) (are.free entry past below))))
    (cases_lt entry begun)

-- behind a program the entries that it doesn't touch are as free as before
pub program_leaves : (spares begun at size next : ℕ) (m after : List ℕ) → AreFree m 0 begun spares
    → at + size ≤ 20 * spares → SameElsewhere m at size after → next ≡ max begun ((at + size + 19) / 20)
    → AreFree after 0 next spares
program_leaves spares begun at size next m after are within elsewhere is =
    let old = are.within in
    record {
      within = omega (arith, old, within, is);
      free = λ t from lt.
          let past : at + size ≤ slot_of 0 t = omega (arith, from, is) in
          let old_one : begun ≤ t = omega (arith, from, is) in
          blank_same m after (slot_of 0 t) 20 at size elsewhere (inr past) (are.free t old_one lt);
    }
