-- What an answer tells of a board and of a store, at the exits of their calls.
use Rattle.std.specs.Prelude.{◌≤◌, length, Result, Ok, Err, IsErrAnd}
use Rattle.std.proofs.Common.{◌≡◌, ◌+◌, ℕ, List, true, false, refl, sym, ◌∙◌, ap, subst, inl, arith}
use Rattle.undo_journal.specs.declared.batch.Waiting.{Waiting}
use Rattle.std.proofs.Math.Logic.{⊎_elim, ⊎_map}
use Rattle.nvm_board.specs.declared.board.DeviceErr.{DeviceErr}
use Rattle.nvm_board.specs.declared.board.DeviceErr.TheVariants as device
use Rattle.nvm_board.specs.declared.board.TheConstants.{PAGE_WORDS}
use Rattle.nvm_board.specs.BoardCalls.{TellsWord, Writes}
use Rattle.nvm_board.specs.Facts.{Facts, Answered, Steady, GoesDark}
use Rattle.nvm_board.specs.laws.Aims.{aims_written}
use Rattle.undo_journal.specs.declared.error.StoreErr.TheVariants.{PowerLost}
use Rattle.undo_journal.specs.declared.error.OpenFault.{OpenFault}
use Rattle.undo_journal.specs.Memory.{Memory, Reports, FailsBy, OpensNot}
use Rattle.undo_journal.specs.Memory.{store_err_of, open_fault_of}
use Rattle.undo_journal.specs.laws.Memory.{reports_same}
use Rattle.undo_journal.specs.Spending.{KeepsBoard, WritesAtMost}

-- an error tells the same of the board, whatever the answer would have been without it
pub answered_err : {S T : Type 0} (old new : Facts) (e : DeviceErr) (result : Result T DeviceErr)
    → IsErrAnd result (λ f. f ≡ e) → Answered {T = S} old new (Err e) → Answered old new result
answered_err old new e (Ok x) is told = absurd is
answered_err old new e (Err f) is told = record {
  ok = λ h. absurd cc;
  lost = λ h. let same : e ≡ device.PowerLost = cc in told.lost (ap Err same);
  fault = λ h. let same : e ≡ device.Fault = cc in told.fault (ap Err same);
}

-- calls in a row that went well
pub steady_then : (a b c : Facts) → Steady a b → Steady b c → Steady a c
steady_then a b c first rest = record {
  was_lit = first.was_lit;
  lit = rest.lit;
  faults = rest.faults ∙ first.faults;
  cuts = rest.cuts ∙ first.cuts;
  due = rest.due ∙ first.due;
}

-- an answer after calls that went well
pub answered_after : {T : Type 0} (a b c : Facts) (result : Result T DeviceErr) → Steady a b → Answered b c result
    → Answered a c result
answered_after a b c result first told = record {
  ok = λ h. steady_then a b c first (told.ok h);
  lost = λ h. ⊎_elim
      (λ (dark : GoesDark b c). inl (record {
        was_lit = first.was_lit;
        dark = dark.dark;
        faults = dark.faults ∙ first.faults;
        cuts = dark.cuts ∙ ap (λ (n : ℕ). n + 1) first.cuts;
        due = ⊎_map (λ cut. sym first.due ∙ cut) (λ worn. (worn.0, worn.1 ∙ first.due)) dark.due;
      }))
      (λ off. let lit : b.dark ≡ false = first.lit in let dark : b.dark ≡ true = off.0 in absurd cc)
      (told.lost h);
  fault = λ h. let fault = told.fault h in record {
    was_lit = first.was_lit;
    lit = fault.lit;
    faults = fault.faults ∙ ap (λ (n : ℕ). n + 1) first.faults;
    cuts = fault.cuts ∙ first.cuts;
    due = fault.due ∙ first.due;
  };
}

-- a powered board without any call
pub steady_same : (f : Facts) → f.dark ≡ false → Steady f f
steady_same f lit = record { was_lit = lit; lit = lit; faults = refl; cuts = refl; due = refl }

-- a read keeps the board
pub read_keeps : (at : ℕ) (old new : Facts) (result : Result ℕ DeviceErr) → TellsWord at old new result
    → KeepsBoard old new
read_keeps at old new result read = record {
  cut = read.cut;
  words = read.words;
  writes = read.writes;
  compares = read.compares;
  matches = read.matches;
}

-- what a write costs
pub write_costs : {T : Type 0} (at : ℕ) (run : List ℕ) (old new : Facts) (result : Result T DeviceErr)
    → length run ≤ PAGE_WORDS → Writes at run old new result → WritesAtMost 1 old new
write_costs at run old new (Ok x) few wrote = let ok : new.writes ≡ old.writes + 1 = wrote.counted in record {
  writes = omega (arith, ok);
  more = omega (arith, ok);
  cut = aims_written at run old new (Ok x) few wrote;
  compares = wrote.compares;
  matches = wrote.matches;
}
write_costs at run old new (Err e) few wrote = let err = wrote.counted_err in record {
  writes = omega (arith, err);
  more = omega (arith, err);
  cut = aims_written at run old new (Err e) few wrote;
  compares = wrote.compares;
  matches = wrote.matches;
}

-- what an error tells of a lit board
pub fails_by : {T : Type 0} (e : DeviceErr) (old new : Facts) → old.dark ≡ false → Answered {T = T} old new (Err e)
    → FailsBy (store_err_of e) old new
fails_by device.PowerLost old new lit told =
    ⊎_elim (λ dark. dark) (λ off. let dark : old.dark ≡ true = off.0 in absurd cc) (told.lost refl)
fails_by device.Fault old new lit told = told.fault refl

-- and of one that has lost power
pub is_dark_by : {T : Type 0} (e : DeviceErr) (old new : Facts) → store_err_of e ≡ PowerLost
    → Answered {T = T} old new (Err e) → new.dark ≡ true
is_dark_by device.PowerLost old new is told =
    ⊎_elim (λ dark. dark.dark) (λ off. ap (λ (f : Facts). f.dark) off.1 ∙ off.0) (told.lost refl)
is_dark_by device.Fault old new is told = absurd cc

-- why an opening failed
pub opens_not : {T : Type 0} (e : DeviceErr) (f : OpenFault) (old new : Facts) → f ≡ open_fault_of e
    → Answered {T = T} old new (Err e) → OpensNot f old new
opens_not device.PowerLost f old new is told =
    let family : OpenFault → Type 0 = λ x. OpensNot x old new in subst family (sym is) (told.lost refl)
opens_not device.Fault f old new is told =
    let family : OpenFault → Type 0 = λ x. OpensNot x old new in subst family (sym is) (told.fault refl)

-- a store of which only the room changes
pub reports_unused : (inside m : Memory) (used : ℕ) (waiting : List Waiting) → inside ≡ m
    → Reports m (record inside { used = used; waiting = waiting })
reports_unused inside m used waiting seen =
    let same = reports_same inside in
    let family : Memory → Type 0 = λ x. Reports x (record inside { used = used; waiting = waiting }) in
    subst family seen
    (record { stuck = same.stuck; works = same.works; fails = same.fails; sound = same.sound })
