-- What calls say of power and device, one after another.
use Rattle.std.proofs.Common.{◌≡◌, ◌+◌, ℕ, true, true≢false, Option, Some, None, Result, Ok, Err, IfOk, refl, sym, ◌∙◌}
use Rattle.std.proofs.Common.{ap, subst, inl, inr, ⊎_elim}
use Rattle.std.specs.Prelude.{MatchOption, MatchResult}
use Rattle.std.specs.Result.{result_err, IsErrAnd, IsErrOf}
use Rattle.nvm_board.specs.declared.board.DeviceErr.{DeviceErr}
use Rattle.nvm_board.specs.declared.board.DeviceErr.TheVariants as device
use Rattle.nvm_board.specs.Facts.{Facts, Steady, GoesDark, Fails, Answered, IsWorn}
use Rattle.undo_journal.specs.declared.error.StoreErr.{StoreErr}
use Rattle.undo_journal.specs.declared.error.StoreErr.TheVariants.{PowerLost, Fault}
use Rattle.undo_journal.specs.declared.error.OpenFault.{OpenFault}
use Rattle.undo_journal.specs.declared.error.OpenFault.TheVariants as opening
use Rattle.undo_journal.specs.Memory.{committed, FailsBy as StoreFailsBy, IsReady, Memory, OpensNot, Reports}
use Rattle.undo_journal.specs.StoreCalls.{Changes, UnlessFailed}
use Rattle.undo_journal.specs.Undo.{IsSound}
use Rattle.file_tree.specs.Indexes.{IsIndex}
use Rattle.card_model.specs.declared.space.FreeSpace.{FreeSpace}
use Rattle.file_tree.specs.declared.index.Index.{Index}
use Rattle.card_start.specs.declared.faults.StartFault.TheVariants.{Damaged}
use Rattle.command_base.specs.Finding.{words_found, HasCard}
use Rattle.command_base.specs.Standing.{IsAnyCard}
use Rattle.command_base.specs.Working.{space_in, table_in, IsKept}
use Rattle.command_base.specs.CurrentFiles.{fresh_current}
use Rattle.card_start.specs.CardSurveys.{TellsSurvey}
use Rattle.card_start.specs.declared.faults.StartFault.{StartFault}
use Rattle.card_start.specs.StartFaults.{fault_of_open, fault_of_store}
use Rattle.card_start.specs.Running.{StartStopsBy}

module _ (a b c : Facts) (before : Steady a b) where
  pub steady_then : Steady b c → Steady a c
  steady_then s = record {
    was_lit = before.was_lit;
    lit = s.lit;
    faults = s.faults ∙ before.faults;
    cuts = s.cuts
        ∙ before.cuts;
    due = s.due ∙ before.due;
  }

  goes_dark_then : GoesDark b c → GoesDark a c
  goes_dark_then g = record {
    was_lit = before.was_lit;
    dark = g.dark;
    faults = g.faults ∙ before.faults;
    cuts = g.cuts ∙ ap (λ (n : ℕ). n + 1) before.cuts;
    due = ⊎_elim (λ (cut : b.due ≡ c.due + 1). inl (sym before.due ∙ cut)) (λ (worn : IsWorn c × (c.due
        ≡ b.due)). inr (worn.0, worn.1 ∙ before.due)) g.due;
  }

  fails_then : Fails b c → Fails a c
  fails_then f = record {
    was_lit = before.was_lit;
    lit = f.lit;
    faults = f.faults
        ∙ ap (λ (n : ℕ). n + 1) before.faults;
    cuts = f.cuts ∙ before.cuts;
    due = f.due ∙ before.due;
  }

  -- an answer, after calls that succeeded
  pub answered_after : {T : Type 0} (r : Result T DeviceErr) → Answered b c r → Answered a c r
  answered_after r answer = record {
    ok = λ h. steady_then (answer.ok h);
    lost = λ h. ⊎_elim (λ (dark : GoesDark b c). inl (goes_dark_then dark)) (λ (off : (b.dark ≡ true) × (c
        ≡ b)). absurd (true≢false (sym off.0 ∙ before.lit))) (answer.lost h);
    fault = λ h. fails_then (answer.fault h);
  }

-- an error that is handed on
pub answered_handed : {T U : Type 0} (a b : Facts) (r : Result U DeviceErr) (e : DeviceErr) → IsErrAnd r (λ f. f ≡ e)
    → Answered {T = T} a b (Err e) → Answered a b r
answered_handed a b (Ok x) e is answer = absurd is
answered_handed {T = T} {U = U} a b (Err f) e is answer = record {
  ok = λ ok. absurd (true≢false (sym ok));
  lost = λ lost. let told : IsErrOf {T = T} (Err e) device.PowerLost = cc in answer.lost told;
  fault = λ fault. let told : IsErrOf {T = T} (Err e) device.Fault = cc in answer.fault told;
}

-- a store that fails, over a board that held when it was opened
pub stops-by : (e : StoreErr) (stop : StartFault) (a b c : Facts) → stop ≡ fault_of_store e → Steady a b
    → StoreFailsBy e b c → StartStopsBy stop a c
stops-by PowerLost stop a b c is before fails =
    subst (λ (f : StartFault). StartStopsBy f a c) (sym is) (inl (goes_dark_then a b c before fails))
stops-by Fault stop a b c is before fails =
    subst (λ (f : StartFault). StartStopsBy f a c) (sym is) (fails_then a b c before fails)

-- what a start tells of what it found
abbrev Found : Result (Option FreeSpace) StoreErr → Result FreeSpace StartFault → Type 0
Found found result = MatchResult found (λ space. MatchOption space (result ≡ Err Damaged) (λ free. result ≡ Ok free))
    (λ e. result ≡ Err (fault_of_store e))

-- a card
pub found-there : (found : Result (Option FreeSpace) StoreErr) (result : Result FreeSpace StartFault) (free : FreeSpace)
    → Found found result → result ≡ Ok free → found ≡ Ok (Some free)
found-there (Ok (Some space)) result free tells is = let same = sym tells ∙ is in cc
found-there (Ok None) result free tells is = let never = sym tells ∙ is in cc
found-there (Err e) result free tells is = let never = sym tells ∙ is in cc

-- or why there is none that starts
pub stops-found : (first : Facts) (opened last : Memory) → Steady first opened.facts → IsSound first.words
    → committed opened ≡ words_found first.words → opened.failed ≡ None → Reports opened last
    → (files : Index) (found : Result (Option FreeSpace) StoreErr) (result : Result FreeSpace StartFault)
    → (stop : StartFault) → Found found result → result ≡ Err stop
    → IfOk found (TellsSurvey (committed opened) (committed last) files)
    → last.failed ≡ result_err found → StartStopsBy stop first last.facts
stops-found first opened last light sound words works reports files (Ok (Some space)) result stop tells is card failed =
    let never = sym tells ∙ is in cc
stops-found first opened last light sound words works reports files (Ok None) result stop tells is card failed =
    let same = sym tells ∙ is in
    let damaged : Damaged ≡ stop = cc in
    let still = (reports.works failed).1 in
    subst (λ (f : StartFault). StartStopsBy f first last.facts) damaged (
      sound,
      λ stands. card (subst IsAnyCard (sym words) stands),
      record {
        was_lit = light.was_lit;
        lit = still.dark ∙ light.lit;
        faults = still.faults ∙ light.faults;
        cuts = still.cuts ∙ light.cuts;
        due = still.due ∙ light.due;
      },
    )
stops-found first opened last light sound words works reports files (Err e) result stop tells is card failed =
    let same = sym tells ∙ is in
    let stop_is : stop ≡ fault_of_store e = cc in
    stops-by e stop first opened.facts last.facts stop_is light (reports.fails e works failed)

-- a store that isn't opened
pub stops-opening : (e : OpenFault) (stop : StartFault) (a b : Facts) → stop ≡ fault_of_open e → OpensNot e a b
    → StartStopsBy stop a b
stops-opening opening.PowerLost stop a b is stops = subst (λ (f : StartFault). StartStopsBy f a b) (sym is) stops
stops-opening opening.Fault stop a b is stops = subst (λ (f : StartFault). StartStopsBy f a b) (sym is) stops
stops-opening opening.BadJournal stop a b is stops = subst (λ (f : StartFault). StartStopsBy f a b) (sym is) stops

-- the card of a start is found, its store is ready, and its free space and its index are what was told
pub starts-kept : (opened last : Memory) (n : ℕ) (files : Index) (free : FreeSpace)
    → (found : Result (Option FreeSpace) StoreErr) → found ≡ Ok (Some free) → IsSound opened.facts.words
    → IfOk found (TellsSurvey (committed opened) (committed last) files) → Changes n opened last (result_err found)
    → HasCard last.facts.words × IsKept last fresh_current × (free ≡ space_in last) × IsIndex (table_in last) files
starts-kept opened last n files free found is sound card changes =
    let told = subst (λ (r : Result (Option FreeSpace) StoreErr).
    IfOk r (TellsSurvey (committed opened) (committed last) files)) is card in (
      record { journal = changes.reports.sound sound; words = inl told.1 },
      record {
        ready = subst (λ (r : Result (Option FreeSpace) StoreErr).
            UnlessFailed (result_err r) (IsReady last)) is changes.ready;
        card = told.1;
        current = record { df = told.1.tree.entries.master.kind; ef = tt; marks = refl };
      },
      told.2,
      told.3,
    )
