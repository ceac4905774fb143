-- A board of which a cut may be set to come, over one of which none can.
use Rattle.std.specs.Prelude.{ℕ, zero, suc, ◌≡◌, ◌+◌, Bool, true, false, if◌then◌else◌, is_some, List, Option}
use Rattle.std.specs.Prelude.{Some, None, option_map, Result, Ok, Err, IsErrAnd}
use Rattle.std.proofs.Common.{refl, sym, ◌∙◌, ap, inl, inr, subst, arith, true≢false}
use Rattle.std.proofs.Math.Logic.{⊎_map, ⊎_elim}
use Rattle.nvm_board.specs.declared.board.Arm.{Arm}
use Rattle.nvm_board.specs.declared.board.DeviceErr.{DeviceErr}
use Rattle.nvm_board.specs.declared.board.DeviceErr.TheVariants.{PowerLost, Fault}
use Rattle.nvm_board.specs.Facts.{Facts, Answered, IsLostRightly, IsWorn, Steady, GoesDark}
use Rattle.nvm_board.specs.Aims.{Aim, aim, due_of, AimStays, AimsAtWrite}
use Rattle.simulated_boards.specs.Cut.{ArmAfter}
use Rattle.nvm_board.specs.Torn.{IsTornBy}

-- the facts of a board, with this arm in place of its own
abbrev pub with_arm : Option Arm → Facts → Facts
with_arm a f = record f { due = due_of a; pending = a }

-- the next write is the torn one
abbrev pub fires_by : ℕ → Option Arm
fires_by mask = Some (record { whole_writes = 0; mask = mask })

-- what an answer tells stays, where the arm does
pub answered_armed : {T : Type 0} (a : Option Arm) (old new : Facts) (result : Result T DeviceErr) → old.due ≡ 0
    → Answered old new result → Answered (with_arm a old) (with_arm a new) result
answered_armed a old new result none told = record {
  ok = λ h. let s = told.ok h in record
      { was_lit = s.was_lit; lit = s.lit; faults = s.faults; cuts = s.cuts; due = refl };
  lost = λ h. ⊎_map
      (λ (dark : GoesDark old new). record {
        was_lit = dark.was_lit;
        dark = dark.dark;
        faults = dark.faults;
        cuts = dark.cuts;
        due = ⊎_elim (λ cut. absurd (omega (arith, cut, none))) (λ worn. inr (worn.0, refl)) dark.due;
      })
      (λ off. (off.0, ap (with_arm a) off.1))
      (told.lost h);
  fault = λ h. let f = told.fault h in record
      { was_lit = f.was_lit; lit = f.lit; faults = f.faults; cuts = f.cuts; due = refl };
}

-- nor is power lost otherwise
pub lost_armed : {T : Type 0} (a b : Option Arm) (old new : Facts) (result : Result T DeviceErr) → old.due ≡ 0
    → IsLostRightly old new result → IsLostRightly (with_arm a old) (with_arm b new) result
unfolding IsLostRightly
lost_armed a b old new result none rightly = λ lost lit.
    ⊎_elim (λ cut. absurd (omega (arith, cut, none))) (λ worn. inr worn) (rightly lost lit)

-- the error that is handed on is the one that was told
pub error_armed : {T : Type 0} (P : Result T DeviceErr → Type 0) (result : Result T DeviceErr) (e : DeviceErr)
    → IsErrAnd result (λ f. f ≡ e) → P (Err e) → P result
error_armed P (Ok x) e is told = absurd is
error_armed P (Err f) e is told = subst (λ (x : DeviceErr). P (Err x)) (sym is) told

-- why a board without cuts and faults loses power that was on
pub worn_by : {T : Type 0} (e : DeviceErr) (old new : Facts) → old.due ≡ 0 → new.faults ≡ 0 → old.dark ≡ false
    → Answered {T = T} old new (Err e) → IsLostRightly {T = T} old new (Err e) → IsWorn old
unfolding IsLostRightly
worn_by PowerLost old new none fine lit told rightly =
    ⊎_elim (λ cut. absurd (omega (arith, cut, none))) (λ worn. worn) (rightly refl lit)
worn_by Fault old new none fine lit told rightly =
    let fault = told.fault refl in absurd (omega (arith, fault.faults, fine))

-- a write that failed for a count at its end leaves the arm
pub spared_err : {T : Type 0} (at : ℕ) (run : List ℕ) (a : Option Arm) (old new : Facts) (e : DeviceErr)
    → old.due ≡ 0 → new.faults ≡ 0 → Answered {T = T} old new (Err e) → IsLostRightly {T = T} old new (Err e)
    → ((mask : ℕ) → old.dark ≡ false → ¬ (a ≡ fires_by mask))
    → ArmAfter {T = T} at run (with_arm a old) (with_arm a new) (Err e)
spared_err at run a old new e none fine told rightly never = record {
  dark = λ off. refl;
  unarmed = λ lit unarmed. record {
    done = λ ok. absurd cc;
    worn = λ err. worn_by e old new none fine lit told rightly;
    stays = λ err. refl;
  };
  before = λ left mask lit some. record {
    done = λ ok. absurd cc;
    worn = λ err. worn_by e old new none fine lit told rightly;
    stays = λ err. refl;
  };
  fires = λ mask lit some. absurd (never mask lit some);
}

-- a write that was carried out, with as many cuts to come
pub answered_spared : {T : Type 0} (a b : Option Arm) (old new : Facts) (x : T) → is_some b ≡ is_some a → Steady old new
    → Answered (with_arm a old) (with_arm b new) (Ok x)
answered_spared a b old new x same light = record {
  ok = λ h. record {
    was_lit = light.was_lit;
    lit = light.lit;
    faults = light.faults;
    cuts = light.cuts;
    due = (let count : Bool → ℕ = λ some. if some then 1 else 0 in ap count same);
  };
  lost = λ h. absurd cc;
  fault = λ h. absurd cc;
}

-- it brings the cut nearer by one write
pub spared_ok : {T : Type 0} (at : ℕ) (run : List ℕ) (a b : Option Arm) (old new : Facts) (x : T) → old.dark ≡ false
    → (a ≡ None → b ≡ None)
    → ((left mask : ℕ) → a ≡ Some (record { whole_writes = left + 1; mask = mask })
    → b ≡ Some (record { whole_writes = left; mask = mask }))
    → ((mask : ℕ) → old.dark ≡ false → ¬ (a ≡ fires_by mask))
    → ArmAfter at run (with_arm a old) (with_arm b new) (Ok x)
spared_ok at run a b old new x was_lit unarmed nearer never = record {
  dark = λ off. let dark : old.dark ≡ true = off in absurd cc;
  unarmed = λ lit none. record { done = λ ok. unarmed none; worn = λ err. absurd cc; stays = λ err. absurd cc };
  before = λ left mask lit some. record
      { done = λ ok. nearer left mask some; worn = λ err. absurd cc; stays = λ err. absurd cc };
  fires = λ mask lit some. absurd (never mask lit some);
}

-- a write of a board of which no cut is set to come leaves it so
pub unarmed_after : {T : Type 0} (at : ℕ) (run : List ℕ) (a : Option Arm)
    (old new : Facts) (result : Result T DeviceErr) → a ≡ None → old.due ≡ 0 → new.faults ≡ 0 → Answered old new result
    → IsLostRightly old new result
    → ArmAfter at run (with_arm a old) (with_arm a new) result
unarmed_after at run a old new (Ok x) unarmed none fine told rightly =
    spared_ok at run a a old new x (told.ok refl).was_lit (λ same. same)
    (λ left mask some. absurd (let other : None ≡ Some _ = sym unarmed ∙ some in cc))
    (λ mask lit some. absurd (let other : None ≡ fires_by mask = sym unarmed ∙ some in cc))
unarmed_after at run a old new (Err e) unarmed none fine told rightly =
    spared_err at run a old new e none fine told rightly
    (λ mask lit some. absurd (let other : None ≡ fires_by mask = sym unarmed ∙ some in cc))

-- what is told of a torn write
pub answered_torn : {T : Type 0} (a : Option Arm) (old new : Facts) (mask : ℕ) → a ≡ fires_by mask → old.dark ≡ false
    → new.dark ≡ true → new.faults ≡ old.faults → new.cuts ≡ old.cuts + 1
    → Answered {T = T} (with_arm a old) (with_arm None new) (Err PowerLost)
answered_torn a old new mask fires lit dark faults cuts = record {
  ok = λ h. absurd cc;
  lost = λ h. inl (record
      { was_lit = lit; dark = dark; faults = faults; cuts = cuts; due = inl (ap due_of fires) });
  fault = λ h. absurd cc;
}

-- the parts of an arm
abbrev writes_of : Option Arm → ℕ
writes_of None = 0
writes_of (Some a) = a.whole_writes

abbrev mask_of : Option Arm → ℕ
mask_of None = 0
mask_of (Some a) = a.mask

-- it spends the arm
pub arm_spent : {T : Type 0} (at : ℕ) (run : List ℕ) (a : Option Arm) (old new : Facts) (mask : ℕ) → a ≡ fires_by mask
    → old.dark ≡ false → IsTornBy mask old.words at run new.words
    → ArmAfter {T = T} at run (with_arm a old) (with_arm None new) (Err PowerLost)
arm_spent at run a old new mask fires was_lit torn = record {
  dark = λ off. let dark : old.dark ≡ true = off in absurd cc;
  unarmed = λ lit none. let unarmed : a ≡ None = none in absurd cc;
  before = λ left other lit some.
      let e : 0 ≡ left + 1 = ap writes_of (sym fires ∙ some) in
      absurd (omega arith);
  fires = λ other lit some.
      let same : mask ≡ other = ap mask_of (sym fires ∙ some) in
      let family : ℕ → Type 0 = λ k. IsTornBy k old.words at run new.words in
      record { lost = refl; torn = subst family same torn; spent = refl };
}

-- where a cut falls that is set on a board which counted so many writes
abbrev pub aimed : ℕ → Option Arm → Option Aim
aimed writes a = option_map (λ x. record { write = writes + x.whole_writes + 1; mask = x.mask }) a

pub aim-armed : (a : Option Arm) (f : Facts) → aim (with_arm a f) ≡ aimed f.writes a
aim-armed None f = refl
aim-armed (Some a) f = refl

-- a read leaves where the cut falls
pub aim_stays_armed : (a : Option Arm) (old new : Facts) → new.writes ≡ old.writes → AimStays old new
    → AimStays (with_arm a old) (with_arm a new)
aim_stays_armed a old new same stays = record {
  off = λ off. ap (with_arm a) (stays.off off);
  masks = stays.masks;
  aim = aim-armed a new ∙ ap (λ (n : ℕ). aimed n a) same ∙ sym (aim-armed a old);
  more = stays.more;
  log = stays.log;
}

-- a call that leaves the arm, and makes no write, leaves where the cut falls
pub aims_armed : (at : ℕ) (run : List ℕ) (a : Option Arm) (old new : Facts) → new.writes ≡ old.writes
    → AimsAtWrite at run old new → AimsAtWrite at run (with_arm a old) (with_arm a new)
aims_armed at run a old new same aims = record {
  off = λ off. ap (with_arm a) (aims.off off);
  masks = aims.masks;
  cut = inl (aim-armed a new ∙ ap (λ (n : ℕ). aimed n a) same ∙ sym (aim-armed a old));
}

-- a write that was carried out brings it nearer by one
nearer-aimed : (a b : Option Arm) (n : ℕ) → (a ≡ None → b ≡ None)
    → ((left mask : ℕ) → a ≡ Some (record { whole_writes = left + 1; mask = mask })
    → b ≡ Some (record { whole_writes = left; mask = mask }))
    → ((mask : ℕ) → ¬ (a ≡ fires_by mask)) → aimed (n + 1) b ≡ aimed n a
nearer-aimed None b n none before never = ap (aimed (n + 1)) (none refl)
nearer-aimed (Some a) b n none before never = from a.whole_writes refl
  where
    from : (left : ℕ) → a.whole_writes ≡ left → aimed (n + 1) b ≡ aimed n (Some a)
    from zero is = absurd (never a.mask (ap (λ (k : ℕ). Some (record { whole_writes = k; mask = a.mask })) is))
    from (suc left) is =
        let arm : Option Arm = Some (record { whole_writes = left + 1; mask = a.mask }) in
        let more : suc left ≡ left + 1 = omega arith in
        let armed : Some a ≡ arm = ap (λ (k : ℕ). Some (record { whole_writes = k; mask = a.mask })) (is ∙ more) in
        let sum : n + 1 + left + 1 ≡ n + a.whole_writes + 1 = omega (arith, is) in
        ap (aimed (n + 1)) (before left a.mask armed) ∙ ap (λ (k : ℕ). Some (record { write = k; mask = a.mask })) sum

pub aims_nearer : (at : ℕ) (run : List ℕ) (a b : Option Arm) (old new : Facts) → old.dark ≡ false
    → new.masks ≡ old.masks → new.writes ≡ old.writes + 1 → (a ≡ None → b ≡ None)
    → ((left mask : ℕ) → a ≡ Some (record { whole_writes = left + 1; mask = mask })
    → b ≡ Some (record { whole_writes = left; mask = mask }))
    → ((mask : ℕ) → old.dark ≡ false → ¬ (a ≡ fires_by mask))
    → AimsAtWrite at run (with_arm a old) (with_arm b new)
aims_nearer at run a b old new lit masks counted none before never =
    record {
      off = λ off. absurd (let dark : old.dark ≡ true = off in cc);
      masks = masks;
      cut = inl (aim-armed b new ∙ ap (λ (n : ℕ). aimed n b) counted
          ∙ nearer-aimed a b old.writes none before (λ mask. never mask lit) ∙ sym (aim-armed a old));
    }

-- with no cut set to come there is none before a write, and none behind it
pub aims_unarmed : (at : ℕ) (run : List ℕ) (a : Option Arm) (old new : Facts) → a ≡ None → AimsAtWrite at run old new
    → AimsAtWrite at run (with_arm a old) (with_arm a new)
aims_unarmed at run a old new none aims = record {
  off = λ off. ap (with_arm a) (aims.off off);
  masks = aims.masks;
  cut = inl (aim-armed a new ∙ ap (aimed new.writes) none ∙ sym (aim-armed a old ∙ ap (aimed old.writes) none));
}

-- the write that the cut falls into
pub aims_fallen : (at : ℕ) (run : List ℕ) (a : Option Arm) (mask : ℕ) (old new : Facts) → a ≡ fires_by mask
    → old.dark ≡ false → new.dark ≡ true → new.masks ≡ old.masks
    → (old.masks ≡ true → IsTornBy mask old.words at run new.words)
    → AimsAtWrite at run (with_arm a old) (with_arm None new)
aims_fallen at run a mask old new falls lit dark masks masked = record {
  off = λ off. absurd (true≢false (sym off ∙ lit));
  masks = masks;
  cut = inr (record {
    dark = dark;
    none = refl;
    cut = record { write = old.writes + 0 + 1; mask = mask };
    was = aim-armed a old ∙ ap (aimed old.writes) falls;
    next = omega arith;
    masked = masked;
  });
}
