-- A board on a flash is one, and what its calls do to power.
use Rattle.std.specs.Prelude.{◌≡◌, ◌⊎◌, ◌+◌, ℕ, true, false, List, Ok, Err}
use Rattle.std.proofs.Common.{refl, sym, inl, inr, ⊎_elim, subst}
use Rattle.nvm_board.specs.declared.board.DeviceErr.TheVariants.{PowerLost, Fault}
use Rattle.nvm_board.specs.Facts.{Facts, IsBoard, Answered, IsLostRightly, IsWorn}
use Rattle.nvm_board.specs.History.{written}
use Rattle.nvm_board.specs.Torn.{Torn}
use Rattle.nvm_board.specs.laws.Torn.{Torn-none, Torn-all}
use Rattle.flash_board.specs.declared.flash_board.FlashBoard.{FlashBoard}
use Rattle.flash_board.specs.FlashFacts.{flash_facts}

pub flash_is_board : {F T : Type 0} {g : _} {h : _} (b : FlashBoard F T g h) → IsBoard (flash_facts b)
flash_is_board b = record {
  sized = b.memory;
  words_fit = b.words_fit;
  counted = (b.compares_counted, b.matches_counted);
  counts_fit = record {
    faults = b.faults_fit;
    cuts = b.cuts_fit;
    writes = b.writes_fit;
    compares = b.compares_fit;
    matches = b.matches_fit;
  };
  may_go = b.may_go;
}

-- a write that is whole or not begun is torn at most
pub whole_torn : (m run after : List ℕ) (at : ℕ) → (after ≡ m) ⊎ (after ≡ written m at run) → Torn m at run after
whole_torn m run after at h = let P : List ℕ → Type 0 = Torn m at run in ⊎_elim
    (λ (old : after ≡ m). subst P (sym old) (Torn-none m run at))
    (λ (new : after ≡ written m at run). subst P (sym new) (Torn-all m run at)) h

-- the flash lost power, so that a cut was due
pub lost_tells : {T : Type 0} (old new : Facts) → old.dark ≡ false → new.dark ≡ true → new.faults ≡ old.faults
    → new.cuts ≡ old.cuts + 1 → old.due ≡ new.due + 1 → Answered {T = T} old new (Err PowerLost)
lost_tells old new lit dark faults cuts due = record {
  ok = λ h. absurd cc;
  lost = λ h. inl (record { was_lit = lit; dark = dark; faults = faults; cuts = cuts; due = inl due });
  fault = λ h. absurd cc;
}

pub lost_rightly : (T : Type 0) (old new : Facts) → old.due ≡ new.due + 1
    → IsLostRightly {T = T} old new (Err PowerLost)
unfolding IsLostRightly
lost_rightly T old new due = λ lost lit. inl due

-- the flash failed, and the count of faults is at its end
pub ended_tells : {T : Type 0} (old new : Facts) → old.dark ≡ false → new.dark ≡ true → new.faults ≡ old.faults
    → new.cuts ≡ old.cuts + 1 → new.due ≡ old.due → IsWorn new → Answered {T = T} old new (Err PowerLost)
ended_tells old new lit dark faults cuts due worn = record {
  ok = λ h. absurd cc;
  lost = λ h. inl (record { was_lit = lit; dark = dark; faults = faults; cuts = cuts; due = inr (worn, due) });
  fault = λ h. absurd cc;
}

-- the flash failed
pub fault_tells : {T : Type 0} (old new : Facts) → old.dark ≡ false → new.dark ≡ false → new.faults ≡ old.faults + 1
    → new.cuts ≡ old.cuts → new.due ≡ old.due → Answered {T = T} old new (Err Fault)
fault_tells old new lit still faults cuts due = record {
  ok = λ h. absurd cc;
  lost = λ h. absurd cc;
  fault = λ h. record { was_lit = lit; lit = still; faults = faults; cuts = cuts; due = due };
}

pub fault_rightly : (T : Type 0) (old new : Facts) → IsLostRightly {T = T} old new (Err Fault)
unfolding IsLostRightly
fault_rightly T old new = λ lost lit. absurd cc

-- a dark board, of which nothing changes
pub off_tells : {T : Type 0} (f : Facts) → f.dark ≡ true → Answered {T = T} f f (Err PowerLost)
off_tells f off = record { ok = λ h. absurd cc; lost = λ h. inr (off, refl); fault = λ h. absurd cc }

pub off_rightly : (T : Type 0) (f : Facts) → f.dark ≡ true → IsLostRightly {T = T} f f (Err PowerLost)
unfolding IsLostRightly
off_rightly T f off = λ lost lit. absurd cc

pub worn_rightly : (T : Type 0) (old new : Facts) → IsWorn old → IsLostRightly {T = T} old new (Err PowerLost)
unfolding IsLostRightly
worn_rightly T old new worn = λ lost lit. inr worn

pub lit_rightly : {T : Type 0} (old new : Facts) (x : T) → IsLostRightly old new (Ok x)
unfolding IsLostRightly
lit_rightly old new x = λ lost lit. absurd cc
