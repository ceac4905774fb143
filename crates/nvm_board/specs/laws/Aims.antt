-- Laws of a cut that is set, over calls in a row.
use Rattle.std.proofs.Common.{◌≡◌, ◌⊎◌, ◌+◌, ◌<◌, ◌++◌, ℕ, List, [], ◌∷◌, length, refl, sym, ◌∙◌, ap, subst, inl, inr}
use Rattle.std.proofs.Common.{arith, drop, length-append, length-take, true≢false}
use Rattle.std.proofs.Math.Logic.{⊎_map}
use Rattle.std.proofs.lemmas.List.Elements.{All-append, All-cons, All-nil}
use Rattle.std.proofs.lemmas.List.{append-nil, append_assoc, nil_from_length}
use Rattle.std.proofs.lemmas.Option.{none-some, same_Some}
use Rattle.std.specs.Prelude.{◌≤◌, ◌-◌, Bool, Option, IfSome, Result, Ok, Err, true}
use Rattle.nvm_board.specs.declared.board.DeviceErr.{DeviceErr}
use Rattle.nvm_board.specs.declared.board.TheConstants.{PAGE_WORDS}
use Rattle.nvm_board.specs.declared.board.DeviceErr.TheVariants.{PowerLost, Fault}
use Rattle.nvm_board.specs.Facts.{Facts}
use Rattle.nvm_board.specs.Aims.{Aim, aim, AimStays, AimsAtWrite, AimsOn, FallsNext, FitPages, HasFallen, IsTornLast}
use Rattle.nvm_board.specs.Aims.{TearsLast, WritesRuns, events}
use Rattle.nvm_board.specs.BoardCalls.{Writes}
use Rattle.nvm_board.specs.History.{Run, and_run, replayed, run_in}
use Rattle.nvm_board.specs.Torn.{IsTornBy, Torn}
use Rattle.nvm_board.specs.laws.History.{replayed-append, wrote_none, wrote_one, wrote_same, wrote_then}

-- no cut fell, where the aim is what it was
pub torn_none : (old new : Facts) (runs : List Run) → aim new ≡ aim old → TearsLast old new runs
torn_none old new runs same = λ masks cut was none. absurd (none-some cut (sym none ∙ same ∙ was))

-- no run is written
pub pages_none : FitPages []
pages_none = All-nil (λ (r : Run). length r.words ≤ PAGE_WORDS)

-- one run is
pages-one : (words : List ℕ) (at size : ℕ) → size ≤ PAGE_WORDS → FitPages (run_in words at size ∷ [])
pages-one words at size few =
    let run = run_in words at size in
    let taken : length run.words ≡ _ = length-take (at + size - at) (drop at words) in
    All-cons (λ (r : Run). length r.words ≤ PAGE_WORDS) run [] (omega (arith, taken, few)) pages_none

-- calls before those in which the cut fell
torn-behind : (cut : Aim) (a b c : Facts) (first : WritesRuns a b) (runs : List Run) → IsTornLast cut b c runs
    → IsTornLast cut a c (first.runs ++ runs)
torn-behind cut a b c first runs torn = record {
  earlier = first.runs ++ torn.earlier;
  at = torn.at;
  run = torn.run;
  all = ap (λ (l : List Run). first.runs ++ l) torn.all
      ∙ sym (append_assoc first.runs torn.earlier (run_in c.words torn.at (length torn.run) ∷ []));
  torn = subst (λ (m : List ℕ). IsTornBy cut.mask m torn.at torn.run c.words)
      (ap (λ (m : List ℕ). replayed m torn.earlier) first.words ∙ sym (replayed-append a.words first.runs torn.earlier))
      torn.torn;
  before = let all = length-append first.runs torn.earlier in omega (arith, all, first.counted, torn.before);
}

-- calls after the cut fell, which do nothing
torn-before : (cut : Aim) (a b c : Facts) (runs : List Run) (rest : WritesRuns b c) → c ≡ b → IsTornLast cut a b runs
    → IsTornLast cut a c (runs ++ rest.runs)
torn-before cut a b c runs rest same torn =
    let events_same : events c ≡ events b = ap events same in
    let none : rest.runs ≡ [] = nil_from_length rest.runs (omega (arith, rest.counted, events_same)) in
    let all : runs ++ rest.runs ≡ runs = ap (λ (l : List Run). runs ++ l) none ∙ append-nil runs in
    subst (λ (l : List Run). IsTornLast cut a c l) (sym all)
    (subst (λ (f : Facts). IsTornLast cut a f runs) (sym same) torn)

-- the power of the board afterwards is no part of it
pub torn_off : (old new : Facts) (runs : List Run) → TearsLast old new runs
    → TearsLast old (record new { dark = true }) runs
torn_off old new runs tears = λ masks cut was none. let torn = tears masks cut was none in record {
  earlier = torn.earlier;
  at = torn.at;
  run = torn.run;
  all = torn.all;
  torn = torn.torn;
  before = torn.before;
}

-- nor is that before
pub torn_lit : (old new : Facts) (dark : Bool) (runs : List Run) → TearsLast (record old { dark = dark }) new runs
    → TearsLast old new runs
torn_lit old new dark runs tears = λ masks cut was none. let torn = tears masks cut was none in record {
  earlier = torn.earlier;
  at = torn.at;
  run = torn.run;
  all = torn.all;
  torn = torn.torn;
  before = torn.before;
}

-- no call at all
pub aims_same : (f : Facts) → AimsOn f f
unfolding wrote_same
aims_same f = record {
  off = λ off. refl;
  masks = refl;
  cut = inl refl;
  more = omega arith;
  still = λ same. refl;
  wrote = wrote_same f;
  pages = pages_none;
  torn = torn_none f f [] refl;
}

-- reads in a row
pub aims_stay : (a b c : Facts) → AimStays a b → AimStays b c → AimStays a c
aims_stay a b c first rest = record {
  off = λ off.
      let same = first.off off in
      rest.off (ap (λ (f : Facts). f.dark) same ∙ off) ∙ same;
  masks = rest.masks ∙ first.masks;
  aim = rest.aim ∙ first.aim;
  more = omega (arith, first.more, rest.more);
  log = rest.log ∙ first.log;
}

-- no read at all
pub aim_same : (f : Facts) → AimStays f f
aim_same f = record { off = λ off. refl; masks = refl; aim = refl; more = omega arith; log = refl }

-- reads among calls
pub aims_kept : (old new : Facts) → new.words ≡ old.words → AimStays old new → AimsOn old new
unfolding wrote_none
aims_kept old new same stays = record {
  off = stays.off;
  masks = stays.masks;
  cut = inl stays.aim;
  more = stays.more;
  still = λ none. same;
  wrote = wrote_none old new same stays.log stays.more;
  pages = pages_none;
  torn = torn_none old new [] stays.aim;
}

-- the cut fell into this write
torn-one : (at : ℕ) (run : List ℕ) (old new : Facts) → new.cuts ≡ old.cuts + 1 → new.faults ≡ old.faults
    → FallsNext at run old new → TearsLast old new (run_in new.words at (length run) ∷ [])
torn-one at run old new cuts faults falls = λ masks cut was none.
    let same : falls.cut ≡ cut = same_Some falls.cut cut (sym falls.was ∙ was) in
    subst (λ (c : Aim). IsTornLast c old new (run_in new.words at (length run) ∷ [])) same (record {
      earlier = [];
      at = at;
      run = run;
      all = refl;
      torn = falls.masked masks;
      before = let next = falls.next in omega (arith, next, cuts, faults);
    })

-- a write among calls that is an event: at an error it was counted, or not
writes-on : (at : ℕ) (run : List ℕ) (old new : Facts) → (new.writes ≡ old.writes) ⊎ (new.writes ≡ old.writes + 1)
    → events old < events new → (new.dark ≡ true → (new.cuts ≡ old.cuts + 1) × (new.faults ≡ old.faults))
    → Torn old.words at run new.words → new.log ≡ and_run old.log (run_in new.words at (length run))
    → length run ≤ PAGE_WORDS → AimsAtWrite at run old new → AimsOn old new
unfolding wrote_one
writes-on at run old new counted event lost torn log few aims = record {
  off = aims.off;
  masks = aims.masks;
  cut = ⊎_map (λ same. same) (λ (falls : FallsNext at run old new). record {
    dark = falls.dark;
    none = falls.none;
    there = subst (λ (o : Option Aim). IfSome o (λ a. (new.writes + 1 ≡ a.write) ⊎ (new.writes ≡ a.write)))
        (sym falls.was) (let next = falls.next in ⊎_map (λ (same : new.writes ≡ old.writes). omega (arith, same, next))
        (λ (more : new.writes ≡ old.writes + 1). omega (arith, more, next)) counted);
  }) aims.cut;
  more = omega (arith, event);
  still = λ same. absurd (omega (arith, event, same));
  wrote = wrote_one at run old new torn log event;
  pages = pages-one new.words at (length run) few;
  torn = elim aims.cut [
    | inl same ↦ torn_none old new (run_in new.words at (length run) ∷ []) same
    | inr falls ↦ let by = lost falls.dark in torn-one at run old new by.0 by.1 falls
  ];
}

-- a board without power leaves all
stays-off : (old new : Facts) → new ≡ old → AimsOn old new
stays-off old new same = subst (λ (f : Facts). AimsOn old f) (sym same) (aims_same old)

-- a write among calls
pub aims_written : {T : Type 0} (at : ℕ) (run : List ℕ) (old new : Facts) (result : Result T DeviceErr)
    → length run ≤ PAGE_WORDS → Writes at run old new result → AimsOn old new
aims_written at run old new (Ok x) few wrote =
    let lit = wrote.light.ok refl in
    let counted : new.writes ≡ old.writes + 1 = wrote.counted in
    writes-on at run old new (inr counted) (omega (arith, counted, lit.cuts, lit.faults))
    (λ dark. absurd (true≢false (sym dark ∙ lit.lit))) wrote.torn (wrote.log lit.was_lit) few wrote.cut
aims_written at run old new (Err PowerLost) few wrote =
    let counted = wrote.counted_err in
    elim (wrote.light.lost refl) [
      | inl dark ↦ writes-on at run old new counted (omega (arith, counted, dark.cuts, dark.faults))
          (λ is. (dark.cuts, dark.faults)) wrote.torn (wrote.log dark.was_lit) few wrote.cut
      | inr off ↦ stays-off old new off.1
    ]
aims_written at run old new (Err Fault) few wrote =
    let fault = wrote.light.fault refl in
    let counted = wrote.counted_err in
    writes-on at run old new counted (omega (arith, counted, fault.cuts, fault.faults))
    (λ dark. absurd (true≢false (sym dark ∙ fault.lit))) wrote.torn (wrote.log fault.was_lit) few wrote.cut

-- a cut that fell, where none was set between
fallen_after : (a b c : Facts) → aim b ≡ aim a → HasFallen b c → HasFallen a c
fallen_after a b c same fell = record {
  dark = fell.dark;
  none = fell.none;
  there = subst (λ (o : Option Aim). IfSome o (λ x. (c.writes + 1 ≡ x.write) ⊎ (c.writes ≡ x.write))) same fell.there;
}

-- calls in a row
pub aims_then : (a b c : Facts) → AimsOn a b → AimsOn b c → AimsOn a c
unfolding wrote_then
aims_then a b c first rest = record {
  off = λ off.
      let same = first.off off in
      rest.off (ap (λ (f : Facts). f.dark) same ∙ off) ∙ same;
  masks = rest.masks ∙ first.masks;
  cut = elim first.cut [
    | inl same ↦ elim rest.cut [
      | inl still ↦ inl (still ∙ same)
      | inr fell ↦ inr (fallen_after a b c same fell)
    ]
    | inr fell ↦ inr (subst (λ (f : Facts). HasFallen a f) (sym (rest.off fell.dark)) fell)
  ];
  more = omega (arith, first.more, rest.more);
  still = λ (same : events c ≡ events a).
      let none : events b ≡ events a = omega (arith, same, first.more, rest.more) in
      let then_none : events c ≡ events b = omega (arith, same, none) in
      rest.still then_none ∙ first.still none;
  wrote = wrote_then a b c first.wrote rest.wrote;
  pages = All-append (λ (r : Run). length r.words ≤ PAGE_WORDS) first.wrote.runs rest.wrote.runs first.pages rest.pages;
  torn = λ masks cut was none. elim first.cut [
    | inl same ↦ torn-behind cut a b c first.wrote rest.wrote.runs
        (rest.torn (first.masks ∙ masks) cut (same ∙ was) none)
    | inr fell ↦ torn-before cut a b c first.wrote.runs rest.wrote (rest.off fell.dark)
        (first.torn masks cut was fell.none)
  ];
}
