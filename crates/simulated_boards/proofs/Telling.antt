-- What an answer tells of the power of a board whose calls have no cut and no fault.
use Rattle.std.specs.Prelude.{◌≡◌, ◌+◌, true, false, Ok, Err}
use Rattle.std.proofs.Common.{refl, sym, ap, inl, inr, subst}
use Rattle.nvm_board.specs.declared.board.DeviceErr.TheVariants.{PowerLost}
use Rattle.nvm_board.specs.Facts.{Facts, Answered, IsLostRightly, IsWorn}

-- a dark board, of which nothing changes
pub off_tells : {T : Type 0} (f : Facts) → f.dark ≡ true → Answered {T = T} f f (Err PowerLost)
off_tells f off = record { ok = λ h. absurd cc; lost = λ h. inr (off, refl); fault = λ h. absurd cc }

pub off_rightly : (T : Type 0) (f : Facts) → f.dark ≡ true → IsLostRightly {T = T} f f (Err PowerLost)
unfolding IsLostRightly
off_rightly T f off = λ lost lit. absurd cc

-- a lit board that goes dark, since a count stands at its end
pub worn_tells : {T : Type 0} (old new : Facts) → old.dark ≡ false → IsWorn old
    → new ≡ record old { dark = true; cuts = old.cuts + 1 } → Answered {T = T} old new (Err PowerLost)
worn_tells old new lit worn same = record {
  ok = λ h. absurd cc;
  lost = λ h. inl (record {
    was_lit = lit;
    dark = ap (λ (f : Facts). f.dark) same;
    faults = ap (λ (f : Facts). f.faults) same;
    cuts = ap (λ (f : Facts). f.cuts) same;
    due = inr (subst (λ (f : Facts). IsWorn f) (sym same) worn, ap (λ (f : Facts). f.due) same);
  });
  fault = λ h. absurd cc;
}

pub worn_rightly : (T : Type 0) (old new : Facts) → IsWorn old → IsLostRightly {T = T} old new (Err PowerLost)
unfolding IsLostRightly
worn_rightly T old new worn = λ lost lit. inr worn

-- an answer that is no error loses nothing
pub lit_rightly : {T : Type 0} (old new : Facts) (x : T) → IsLostRightly old new (Ok x)
unfolding IsLostRightly
lit_rightly old new x = λ lost lit. absurd cc
