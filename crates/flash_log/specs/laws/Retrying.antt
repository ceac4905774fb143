-- Laws of a write whose record is tried again: each try that failed met a Fault.
use Rattle.std.specs.Prelude.{◌≤◌, ◌+◌, ℕ, Result, Ok, Err, IsErrOf, IsOk, OnErr, OnOk, is_ok}
use Rattle.nvm_board.specs.declared.board.DeviceErr.{DeviceErr}
use Rattle.nvm_board.specs.declared.board.DeviceErr.TheVariants.{Fault}
use Rattle.std.proofs.Common.{refl, sym, ap, ◌∙◌, arith, true≢false}
use Rattle.flash_device.specs.FlashCalls.{FlashState, KeepsPower, Lights, Tries}
use Rattle.flash_moves.specs.Places.{state_of}

-- what holds of a value, where there is one
pub holds_ok : {T E P : Type 0} (r : Result T E) → OnOk r P → IsOk r → P
holds_ok (Ok x) h ok = h
holds_ok (Err e) h ok = absurd (true≢false (sym ok))

-- what is so of an error is so of this one
pub err_holds : {T P : Type 0} (r : Result T DeviceErr) → OnErr r P → IsErrOf r Fault → P
err_holds (Ok x) h failed = absurd (true≢false (ap is_ok failed))
err_holds (Err e) h failed = h

-- what is so behind an error
pub on_err : {T E P : Type 0} (r : Result T E) → P → OnErr r P
on_err (Ok x) h = tt
on_err (Err e) h = h

pub ok_holds : {T E P : Type 0} (r : Result T E) → (IsOk r → P) → OnOk r P
ok_holds (Ok x) h = h refl
ok_holds (Err e) h = tt

-- one call is a try
pub lights_tries : {R : Type 0} (old new : FlashState) (r : Result R DeviceErr) → Lights old new r → Tries 1 old new r
lights_tries old new r h = record {
  ok = λ e.
      let is = h.ok e in
      let same = is.faults in
      record { lit = is.lit; due = is.due; faults = omega (arith, same) };
  lost = λ e.
      let is = h.lost e in
      let same = is.faults in
      record { dark = is.dark; due = is.due; faults = omega (arith, same) };
  fault = λ e.
      let is = h.fault e in
      let more = is.faults in
      (record { lit = is.lit; due = is.due; faults = omega (arith, more) }, omega (arith, more));
}

-- tries behind others, which met so many Faults
pub tries_behind : {R : Type 0} (n least most : ℕ) (old mid new : FlashState) (r : Result R DeviceErr)
    → KeepsPower old mid → old.faults + n ≤ mid.faults → most ≤ n + least → Tries least mid new r → Tries most old new r
tries_behind n least most old mid new r kept met fits tries = record {
  ok = λ e.
      let is = tries.ok e in
      let less = kept.faults in
      let more = is.faults in
      record { lit = is.lit; due = is.due ∙ kept.due; faults = omega (arith, less, more) };
  lost = λ e.
      let is = tries.lost e in
      let less = kept.faults in
      let more = is.faults in
      record { dark = is.dark; due = sym kept.due ∙ is.due; faults = omega (arith, less, more) };
  fault = λ e.
      let is = tries.fault e in
      let less = kept.faults in
      let more = is.0.faults in
      let most = is.1 in (
        record { lit = is.0.lit; due = is.0.due ∙ kept.due; faults = omega (arith, less, more) },
        omega (arith, met, most, fits),
      );
}

-- the same of what a log's value shows
pub tries_view : {R : Type 0} (pages slots least : ℕ) (old new : FlashState) (r : Result R DeviceErr)
    → Tries least old new r → Tries least (state_of pages slots old) (state_of pages slots new) r
tries_view pages slots least old new r tries = record {
  ok = λ e. let is = tries.ok e in record { lit = is.lit; due = is.due; faults = is.faults };
  lost = λ e. let is = tries.lost e in record { dark = is.dark; due = is.due; faults = is.faults };
  fault = λ e.
      let is = tries.fault e in (record { lit = is.0.lit; due = is.0.due; faults = is.0.faults }, is.1);
}
