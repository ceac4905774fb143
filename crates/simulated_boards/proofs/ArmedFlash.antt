-- A board of which a cut may be set to come, over one that never fails and of which none is due.
use Rattle.std.specs.Prelude.{ℕ, ◌≡◌, ◌+◌, Bool, true, false, if◌then◌else◌, is_some, List, Option}
use Rattle.std.specs.Prelude.{Some, None, Result, Ok, Err, OnOk, OnErr, is_ok, ◌<◌, ◌⊎◌}
use Rattle.std.proofs.Common.{refl, sym, ◌∙◌, ap, inl, inr, arith, rules, true≢false}
use Rattle.std.proofs.Math.Logic.{⊎_map, ⊎_elim}
use Rattle.nvm_board.specs.declared.board.Arm.{Arm}
use Rattle.nvm_board.specs.declared.board.DeviceErr.{DeviceErr}
use Rattle.nvm_board.specs.declared.board.DeviceErr.TheVariants.{PowerLost, Fault}
use Rattle.nvm_board.specs.Facts.{Facts, Answered, IsLostRightly, GoesDark}
use Rattle.nvm_board.specs.BoardCalls.{Writes}
use Rattle.nvm_board.specs.Aims.{due_of, AimsAtWrite}
use Rattle.simulated_boards.proofs.WithArm.{with_arm, fires_by, aims_armed, aims_fallen, aims_nearer, lost_armed}

-- what an answer tells stays, where as many cuts are to come; a board without power is unchanged, and so is the arm
answered_armed : {T : Type 0} (a b : Option Arm) (old new : Facts) (result : Result T DeviceErr) → old.due ≡ 0
    → is_some b ≡ is_some a → (old.dark ≡ true → new ≡ old → with_arm b new ≡ with_arm a old)
    → Answered old new result → Answered (with_arm a old) (with_arm b new) result
answered_armed a b old new result none same off told =
    let due : due_of b ≡ due_of a = let count : Bool → ℕ = λ some. if some then 1 else 0 in ap count same in
    record {
      ok = λ h. let s = told.ok h in record
          { was_lit = s.was_lit; lit = s.lit; faults = s.faults; cuts = s.cuts; due = due };
      lost = λ h. ⊎_map
          (λ (dark : GoesDark old new). record {
            was_lit = dark.was_lit;
            dark = dark.dark;
            faults = dark.faults;
            cuts = dark.cuts;
            due = ⊎_elim (λ cut. absurd (omega (arith, cut, none))) (λ worn. inr (worn.0, due)) dark.due;
          })
          (λ unlit. (unlit.0, off unlit.0 unlit.1))
          (told.lost h);
      fault = λ h. let f = told.fault h in record
          { was_lit = f.was_lit; lit = f.lit; faults = f.faults; cuts = f.cuts; due = due };
    }

-- no power is due after a call, where none was before it
pub none_due : {T : Type 0} (old new : Facts) (result : Result T DeviceErr) → old.due ≡ 0 → Answered old new result
    → new.due ≡ 0
none_due old new (Ok x) none told = (told.ok refl).due ∙ none
none_due old new (Err PowerLost) none told = elim (told.lost refl) [
  | inl dark ↦ ⊎_elim (λ cut. absurd (omega (arith, cut, none))) (λ worn. worn.1 ∙ none) dark.due
  | inr off ↦ ap (λ (f : Facts). f.due) off.1 ∙ none
]
none_due old new (Err Fault) none told = (told.fault refl).due ∙ none

-- a write that was counted
counts : {T : Type 0} (n m : ℕ) (result : Result T DeviceErr) → OnOk result (m ≡ n + 1)
    → OnErr result ((m ≡ n) ⊎ (m ≡ n + 1)) → n < m → m ≡ n + 1
counts n m (Ok x) ok err more = ok
counts n m (Err e) ok err more = ⊎_elim (λ same. absurd (omega (arith, same, more))) (λ one. one) err

-- one that was not
counts_not : {T : Type 0} (n m : ℕ) (result : Result T DeviceErr) → OnOk result (m ≡ n + 1)
    → OnErr result ((m ≡ n) ⊎ (m ≡ n + 1)) → ¬ (n < m) → m ≡ n
counts_not n m (Ok x) ok err none = absurd (none (omega (arith, ok)))
counts_not n m (Err e) ok err none = ⊎_elim (λ same. same) (λ one. absurd (none (omega (arith, one)))) err

-- what isn't without power has power
has_power : (dark : Bool) → ¬ (dark ≡ true) → dark ≡ false
has_power true lit = absurd (lit refl)
has_power false lit = refl

-- a write that no cut falls into, and that is counted: the cut comes nearer by one
pub spared_counted : {T : Type 0} (at : ℕ) (run : List ℕ) (a b : Option Arm) (old new : Facts)
    (result : Result T DeviceErr) → old.due ≡ 0 → is_some b ≡ is_some a → (a ≡ None → b ≡ None)
    → ((left mask : ℕ) → a ≡ Some (record { whole_writes = left + 1; mask = mask })
    → b ≡ Some (record { whole_writes = left; mask = mask }))
    → ((mask : ℕ) → old.dark ≡ false → ¬ (a ≡ fires_by mask)) → old.writes < new.writes
    → Writes at run old new result → Writes at run (with_arm a old) (with_arm b new) result
spared_counted at run a b old new result none same unarmed before never more told =
    let still : ¬ (new ≡ old) = λ is. let n = ap (λ (f : Facts). f.writes) is in omega (arith, n, more) in
    let lit : old.dark ≡ false = has_power old.dark (λ dark. still (told.cut.off dark)) in
    let one = counts old.writes new.writes result told.counted told.counted_err more in
    record {
      done = told.done;
      torn = told.torn;
      light = answered_armed a b old new result none same (λ dark is. absurd (still is)) told.light;
      worn = lost_armed a b old new result none told.worn;
      cut = aims_nearer at run a b old new lit told.cut.masks one unarmed before never;
      counted = told.counted;
      counted_err = told.counted_err;
      log = told.log;
      compares = told.compares;
      matches = told.matches;
    }

-- one that is not counted: the cut stays where it is
pub spared_uncounted : {T : Type 0} (at : ℕ) (run : List ℕ) (a : Option Arm) (old new : Facts)
    (result : Result T DeviceErr) → old.due ≡ 0 → ¬ (old.writes < new.writes)
    → Writes at run old new result → Writes at run (with_arm a old) (with_arm a new) result
spared_uncounted at run a old new result none more told =
    let same = counts_not old.writes new.writes result told.counted told.counted_err more in
    record {
      done = told.done;
      torn = told.torn;
      light = answered_armed a a old new result none refl (λ dark is. ap (with_arm a) is) told.light;
      worn = lost_armed a a old new result none told.worn;
      cut = aims_armed at run a old new same told.cut;
      counted = told.counted;
      counted_err = told.counted_err;
      log = told.log;
      compares = told.compares;
      matches = told.matches;
    }

-- the write that the cut falls into, on a flash, whose cuts leave all words or none
aims-flash : (at : ℕ) (run : List ℕ) (a : Option Arm) (mask : ℕ) (old new : Facts) → a ≡ fires_by mask
    → old.dark ≡ false → new.dark ≡ true → new.masks ≡ old.masks → old.masks ≡ false
    → AimsAtWrite at run (with_arm a old) (with_arm None new)
aims-flash at run a mask old new falls lit dark masks none =
    aims_fallen at run a mask old new falls lit dark masks (λ is. absurd (true≢false (sym is ∙ none)))

-- the power loss was due
pub answered_fallen : {T : Type 0} (a : Option Arm) (mask : ℕ) (old new : Facts) → a ≡ fires_by mask
    → old.dark ≡ false → new.dark ≡ true → new.faults ≡ old.faults → new.cuts ≡ old.cuts + 1
    → Answered {T = T} (with_arm a old) (with_arm None new) (Err PowerLost)
answered_fallen a mask old new falls lit dark faults cuts = record {
  ok = λ h. absurd cc;
  lost = λ h. inl (record
      { was_lit = lit; dark = dark; faults = faults; cuts = cuts; due = inl (ap due_of falls) });
  fault = λ h. absurd cc;
}

pub rightly_fallen : (T : Type 0) (a : Option Arm) (mask : ℕ) (old new : Facts) → a ≡ fires_by mask
    → IsLostRightly {T = T} (with_arm a old) (with_arm None new) (Err PowerLost)
unfolding IsLostRightly
rightly_fallen T a mask old new falls = λ lost lit. inl (ap due_of falls)

-- a write that was whole before power was lost
pub fallen_behind : {S : Type 0} (at : ℕ) (run : List ℕ) (a : Option Arm) (mask due : ℕ) (old new : Facts)
    (result : Result S DeviceErr) → old.masks ≡ false → a ≡ fires_by mask → old.dark ≡ false → is_ok result ≡ true
    → Writes at run (record old { due = due }) new result
    → Writes {T = Unit {0}} at run (with_arm a old)
    (with_arm None (record new { due = 0; dark = true; cuts = new.cuts + 1 })) (Err PowerLost)
fallen_behind at run a mask due old new (Ok x) flash falls lit ok told =
    let last : Facts = record new { due = 0; dark = true; cuts = new.cuts + 1 } in
    let light = told.light.ok refl in
    record {
      done = search rules;
      torn = told.torn;
      light = answered_fallen a mask old last falls lit refl light.faults (ap (λ (n : ℕ). n + 1) light.cuts);
      worn = rightly_fallen (Unit {0}) a mask old last falls;
      cut = aims-flash at run a mask old last falls lit refl told.cut.masks flash;
      counted = search rules;
      counted_err = inr told.counted;
      log = told.log;
      compares = told.compares;
      matches = told.matches;
    }
fallen_behind at run a mask due old new (Err e) flash falls lit ok told = absurd (true≢false (sym ok))

-- a board that had power, and lost it
went_dark : (old new : Facts) → old.dark ≡ false → GoesDark old new ⊎ ((old.dark ≡ true) × (new ≡ old))
    → GoesDark old new
went_dark old new lit lost = ⊎_elim (λ dark. dark) (λ off. absurd (true≢false (sym off.0 ∙ lit))) lost

-- a write in which power was lost
pub fallen_within : {S : Type 0} (at : ℕ) (run : List ℕ) (a : Option Arm) (mask due : ℕ) (old new : Facts)
    (result : Result S DeviceErr) → old.masks ≡ false → a ≡ fires_by mask → old.dark ≡ false
    → is_ok result ≡ false → new.faults ≡ 0
    → Writes at run (record old { due = due }) new result
    → Writes {T = Unit {0}} at run (with_arm a old) (with_arm None (record new { due = 0 })) (Err PowerLost)
fallen_within at run a mask due old new (Ok x) flash falls lit err fine told = absurd (true≢false err)
fallen_within at run a mask due old new (Err PowerLost) flash falls lit err fine told =
    let last : Facts = record new { due = 0 } in
    let dark = went_dark (record old { due = due }) new lit (told.light.lost refl) in
    record {
      done = search rules;
      torn = told.torn;
      light = answered_fallen a mask old last falls lit dark.dark dark.faults dark.cuts;
      worn = rightly_fallen (Unit {0}) a mask old last falls;
      cut = aims-flash at run a mask old last falls lit dark.dark told.cut.masks flash;
      counted = search rules;
      counted_err = told.counted_err;
      log = told.log;
      compares = told.compares;
      matches = told.matches;
    }
fallen_within at run a mask due old new (Err Fault) flash falls lit err fine told =
    let failed = (told.light.fault refl).faults in absurd (omega (arith, failed, fine))
