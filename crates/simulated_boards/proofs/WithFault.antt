-- A board of which a fault may be set to come, over one that has none.
use Rattle.std.specs.Prelude.{ℕ, ◌≡◌, ◌+◌, ◌≤◌, false, List, Option, Some, None, Result, Err, IsErrAnd, length}
use Rattle.std.proofs.Common.{refl, sym, ap, subst, inr, arith}
use Rattle.std.proofs.Math.Logic.{⊎_elim, ⊎_map}
use Rattle.nvm_board.specs.declared.board.Arm.{Arm}
use Rattle.nvm_board.specs.declared.board.DeviceErr.{DeviceErr}
use Rattle.nvm_board.specs.declared.board.DeviceErr.TheVariants.{PowerLost, Fault}
use Rattle.simulated_boards.specs.declared.fault_board.Counted.{Counted}
use Rattle.simulated_boards.specs.declared.fault_board.Counted.TheVariants.{Calls, Writes}
use Rattle.nvm_board.specs.Facts.{Facts, Answered, GoesDark, IsLostRightly, IsWorn}
use Rattle.simulated_boards.specs.Faulty.{IsCounted, IsPassed, LeavesRun}
use Rattle.nvm_board.specs.Torn.{Torn}
use Rattle.nvm_board.specs.laws.Torn.{Torn-none, Torn-IsTornBy}
use Rattle.simulated_boards.proofs.WithArm.{error_armed, fires_by, worn_by}

-- a count that ends without the faults
worn_with : (a : Option Arm) (n : ℕ) (f : Facts) → f.faults ≡ 0 → IsWorn f
    → IsWorn (record f { pending = a; faults = n })
worn_with a n f fine worn = ⊎_elim (λ ends. absurd (omega (arith, fine, ends))) (λ rest. inr rest) worn

-- the facts of a board, with this fault to come and so many counted
abbrev pub with_fault : Option Arm → ℕ → Facts → Facts
with_fault a n f = record f { pending = a; faults = n }

-- what an answer tells stays, where no fault comes
tells_err : {T : Type 0} (a : Option Arm) (n : ℕ) (old new : Facts) (e : DeviceErr) → old.faults ≡ 0 → new.faults ≡ 0
    → Answered {T = T} old new (Err e) → Answered {T = T} (with_fault a n old) (with_fault a n new) (Err e)
tells_err a n old new PowerLost before after told = record {
  ok = λ h. absurd cc;
  lost = λ h. ⊎_map
      (λ (dark : GoesDark old new). record {
        was_lit = dark.was_lit;
        dark = dark.dark;
        faults = refl;
        cuts = dark.cuts;
        due = ⊎_map (λ cut. cut) (λ worn. (worn_with a n new after worn.0, worn.1)) dark.due;
      })
      (λ off. (off.0, ap (with_fault a n) off.1))
      (told.lost refl);
  fault = λ h. absurd cc;
}
tells_err a n old new Fault before after told =
    let fault = told.fault refl in absurd (omega (arith, fault.faults, before, after))

-- so it does where the error is handed on
pub tells_handed_on : {T : Type 0} (a : Option Arm) (n : ℕ) (old new : Facts) (result : Result T DeviceErr)
    (e : DeviceErr) → IsErrAnd result (λ f. f ≡ e) → Answered {T = T} old new (Err e) → old.faults ≡ 0 → new.faults ≡ 0
    → Answered (with_fault a n old) (with_fault a n new) result
tells_handed_on a n old new result e handed told before after =
    error_armed (λ r. Answered (with_fault a n old) (with_fault a n new) r) result e handed
    (tells_err a n old new e before after told)

-- power is lost in a call that failed, but not by a fault
passed_err : {T : Type 0} (a next : Option Arm) (n : ℕ) (old new : Facts) (e : DeviceErr) → old.due ≡ 0
    → old.faults ≡ 0 → new.faults ≡ 0 → old.dark ≡ false → Answered {T = T} old new (Err e)
    → IsLostRightly {T = T} old new (Err e)
    → IsPassed {T = T} next (with_fault a n old) (with_fault a n new) (Err e)
passed_err a next n old new PowerLost none before after lit told rightly = record {
  done = λ ok. absurd cc;
  lost = λ err. refl;
  worn = λ err. worn_with a n old before (worn_by PowerLost old new none after lit told rightly);
  stays = λ err. refl;
}
passed_err a next n old new Fault none before after lit told rightly =
    let fault = told.fault refl in absurd (omega (arith, fault.faults, before, after))

-- such a call leaves the fault to come
pub counted_err : {T : Type 0} (a : Option Arm) (n : ℕ) (old new : Facts) (e : DeviceErr) → old.due ≡ 0 → old.faults ≡ 0
    → new.faults ≡ 0 → Answered {T = T} old new (Err e) → IsLostRightly {T = T} old new (Err e)
    → ((mask : ℕ) → old.dark ≡ false → ¬ (a ≡ fires_by mask))
    → IsCounted {T = T} (with_fault a n old) (with_fault a n new) (Err e)
counted_err a n old new e none before after told rightly never = record {
  dark = λ off. refl;
  unarmed = λ lit unarmed. passed_err a None n old new e none before after lit told rightly;
  before = λ left mask lit some.
      passed_err a (Some (record { whole_writes = left; mask = mask })) n old new e none before after lit told rightly;
  fires = λ mask lit some. absurd (never mask lit some);
}

-- the run of a write that fails is torn, if only by the mask 0
pub left_torn : (counted : Counted) (mask at : ℕ) (run old new : List ℕ) → at + length run ≤ length old
    → LeavesRun counted mask at run old new → Torn old at run new
left_torn Calls mask at run old new fits left =
    let P : List ℕ → Type 0 = Torn old at run in
    subst P (sym left) (Torn-none old run at)
left_torn Writes mask at run old new fits left = Torn-IsTornBy mask old run new at fits left
