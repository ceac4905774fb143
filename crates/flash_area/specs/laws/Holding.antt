-- Laws of slots that hold pages as they are.
use Rattle.std.specs.Prelude.{◌≡◌, ◌≢◌, ◌<◌, ◌+◌, ℕ, List, length, slice_index}
use Rattle.std.proofs.Common.{sym, ◌∙◌, ap, inl, ⊎_elim, subst, arith}
use Rattle.std.proofs.lemmas.Bool.{cases_eq}
use Rattle.flash_device.specs.FlashCalls.{SameElsewhere}
use Rattle.flash_device.specs.FlashLogs.{find, slot_of}
use Rattle.flash_device.specs.PutRecords.{IsPut}
use Rattle.flash_area.specs.PageCopies.{KeepsOthers}
use Rattle.flash_area.specs.HeldPages.{HavePages, HoldsPage}
use Rattle.flash_area.specs.laws.Copying.{last_found}

module _ (pages slots : ℕ) where
  pub none_held : (m : List ℕ) (base : ℕ) → HavePages pages slots m base 0
  none_held m base = record { each = λ s lt. absurd (omega (arith, lt)) }

  -- a record is put into the next slot, and no other word changes
  pub put_held : (m after : List ℕ) (base next page : ℕ) (words : List ℕ)
      → SameElsewhere m (slot_of base next) 20 after → IsPut after (slot_of base next) words
      → KeepsOthers slots m base page after (next + 1) → next < slots → length words ≡ 18
      → slice_index words 16 ≡ page → slice_index words 17 ≡ 0 → page < pages → find m base slots page ≡ 0
      → HavePages pages slots m base next → HavePages pages slots after base (next + 1)
  put_held m after base next page words elsewhere put kept below size names unused within left have = record {
    each = λ s lt. ⊎_elim
        (λ (e : s ≡ next). subst (λ (t : ℕ). HoldsPage pages slots after base t) (sym e) (record {
          page = page;
          below = within;
          found = last_found slots after base next page words put size names below kept.free;
          unused = put.there.each 17 (omega (arith, size)) ∙ unused;
        }))
        (λ (other : s ≢ next).
        let held = have.each s (omega (arith, lt, other)) in
        let found = held.found in
        let apart : held.page ≢ page = λ e.
        let none : find m base slots held.page ≡ 0 = ap (find m base slots) e ∙ left in
        absurd (omega (arith, none, found)) in
        let before : slot_of base s + 17 < slot_of base next = omega (arith, lt, other) in record {
          page = held.page;
          below = held.below;
          found = kept.found held.page apart ∙ found;
          unused = elsewhere.same (slot_of base s + 17) (inl before) ∙ held.unused;
        })
        (cases_eq s next);
  }
