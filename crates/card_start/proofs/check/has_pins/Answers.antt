use Rattle.std.proofs.Common.{◌≡◌, List, ℕ, Result, Ok, Err, Bool, IfOk, sym, subst}
use Rattle.std.specs.Prelude.{◌↔◌, IsTrue}
use Rattle.undo_journal.specs.declared.error.StoreErr.{StoreErr}
use Rattle.undo_journal.specs.Memory.{committed}
use Rattle.card_start.specs.declared.memory_format.MemoryFormat.{MemoryFormat}
use Rattle.card_start.specs.declared.memory_format.MemoryFormat.TheVariants.{Two}
use Rattle.pin_store.specs.Pages.{AreMarks}
use Rattle.card_start.specs.StartParts.{HoldsPins}
use Rattle.pin_store.specs.Pages.{ArePinPages}
use Rattle.undo_journal.specs.laws.Exits.{none_ok}
use Rattle.undo_journal.specs.laws.Told.{reads_handed, reads_on}
use Rattle.card_start.proofs.check.has_pins.Goals as goal

-- where the PINs may be those of a card, their marks tell
by-marks : (m now : List ℕ) → ArePinPages m → (r : Result Bool StoreErr) → now ≡ m
    → IfOk r (λ marked. IsTrue marked ↔ AreMarks now) → IfOk r (λ pins. IsTrue pins ↔ HoldsPins Two m)
by-marks m now pins (Ok marked) same tells = (
  λ is. (pins, subst AreMarks same (tells.0 is)),
  λ holds. tells.1 (subst AreMarks (sym same) holds.1),
)
by-marks m now pins (Err e) same tells = tt

pub returns-in-Two : goal.returns-in-Two
returns-in-Two g c = record {
  told = let m = committed c.args.store.now in
      subst (λ (format : MemoryFormat). IfOk c.are_marks.result (λ pins. IsTrue pins ↔ HoldsPins format m))
      (sym c.in-Two.is) (by-marks m
      (committed c.are_pins.new.store) (c.in_ok-are_pins.ensures.told.0 c.if-not-branch.false) c.are_marks.result
      c.are_pins.ensures.store.only.keeps.committed_words c.are_marks.ensures.told);
  store = reads_on _ _ _ _ c.are_pins.ensures.store.only c.are_marks.ensures.store;
}

pub returns-in_err-are_pins : goal.returns-in_err-are_pins
returns-in_err-are_pins g c = record {
  told = none_ok _ _ _ c.from_residual.ensures.1;
  store = reads_handed _ _ _ _ c.from_residual.ensures.1 c.in_err-are_pins.ensures.store;
}
