-- The end of a call on a store that worked: an error of the device's answer is noted, and told in the store's words.
use Rattle.std.specs.Prelude.{Option, Some, None, Result, Ok, Err, IfOk, OnOk, OnErr, IsErrOf, IsErrAnd}
use Rattle.std.specs.Option.{option_or}
use Rattle.std.specs.Result.{result_err}
use Rattle.std.proofs.Common.{◌≡◌, ◌+◌, ℕ, true, List, length, refl, sym, ◌∙◌, ap, ap₂, subst}
use Rattle.undo_journal.specs.declared.batch.Waiting.{Waiting}
use Rattle.undo_journal.specs.Batches.{overlay}
use Rattle.nvm_board.specs.declared.board.DeviceErr.{DeviceErr}
use Rattle.nvm_board.specs.Facts.{Facts, AreWords, IsMemory, Answered}
use Rattle.undo_journal.specs.declared.error.StoreErr.{StoreErr}
use Rattle.undo_journal.specs.declared.error.StoreErr.TheVariants.{PowerLost}
use Rattle.undo_journal.specs.Undo.{gate, undo, data_words, IsSound}
use Rattle.undo_journal.specs.Memory.{Memory, IsOpen, IsIdle, IsReady, IsTrueToBoard, Reports, FailsBy, committed}
use Rattle.undo_journal.specs.Memory.{current, taken, store_err_of, store_result_of}
use Rattle.undo_journal.specs.Spending.{KeepsBoard, WritesAtMost}
use Rattle.undo_journal.specs.StoreCalls.{OnlyReads, UnlessFailed, Changes}
use Rattle.undo_journal.specs.laws.Calls.{reads_same, reads_spend}
use Rattle.undo_journal.specs.laws.Exits.{error_tells}
use Rattle.undo_journal.specs.laws.Told.{none_ready}
use Rattle.undo_journal.proofs.Standing.{Fits, open-from, ready-from}
use Rattle.undo_journal.proofs.Telling.{fails_by, is_dark_by, reports_unused}

-- what follows of a value that the device answered
ok-as : {T : Type 0} (P Q : T → Type 0) → ((v : T) → P v → Q v) → (a : Result T DeviceErr) → IfOk a P
    → IfOk (store_result_of a) Q
ok-as P Q f (Ok v) h = f v h
ok-as P Q f (Err e) h = tt

-- and of its error
err-as : {T : Type 0} (P : Type 0) (a : Result T DeviceErr) → OnErr a P → OnErr (store_result_of a) P
err-as P (Ok v) h = tt
err-as P (Err e) h = h

-- where nothing was noted before
or-none : (o : Option StoreErr) → option_or o None ≡ o
or-none None = refl
or-none (Some e) = refl

pub noted_tells : {T : Type 0} (old new : Option StoreErr) (result : Result T StoreErr) → old ≡ None
    → new ≡ option_or (result_err result) old → new ≡ result_err result
noted_tells old new result none failed =
    failed ∙ ap (λ (o : Option StoreErr). option_or (result_err result) o) none ∙ or-none (result_err result)

-- that power was lost
dark-as : {T : Type 0} (a : Result T DeviceErr) (old new : Facts) → Answered old new a
    → IsErrOf (store_result_of a) PowerLost → new.dark ≡ true
dark-as (Ok v) old new light lost = absurd cc
dark-as (Err e) old new light lost = let is : store_err_of e ≡ PowerLost = cc in is_dark_by e old new is light

-- what holds of a call that went well, where the store hasn't failed in it
pub done_unfailed : {T : Type 0} (P : Type 0) (r : Result T StoreErr) (failed : Option StoreErr)
    → failed ≡ result_err r → failed ≡ None → OnOk r P → P
done_unfailed P (Ok v) failed tells works h = h
done_unfailed P (Err e) failed tells works h = let never : None ≡ Some e = sym works ∙ tells in cc

-- what holds of a call that went well
pub unless_failed : {T : Type 0} (P : Type 0) (r : Result T StoreErr) → OnOk r P → UnlessFailed (result_err r) P
unless_failed P (Ok v) h = h
unless_failed P (Err e) h = tt

-- the device's answer, and the store's
module _ {T : Type 0} (answer : Result T DeviceErr) (result : Result T StoreErr)
    (is : result ≡ store_result_of answer) where
  pub if_ok : (P Q : T → Type 0) → ((v : T) → P v → Q v) → IfOk answer P → IfOk result Q
  if_ok P Q f h = subst (λ (r : Result T StoreErr). IfOk r Q) (sym is) (ok-as P Q f answer h)

  pub on_ok : (P Q : Type 0) → (P → Q) → OnOk answer P → OnOk result Q
  on_ok P Q f h = if_ok (λ _. P) (λ _. Q) (λ _. f) h

  pub on_dark : (old new : Facts) → Answered old new answer → IsErrOf result PowerLost → new.dark ≡ true
  on_dark old new light lost = dark-as answer old new light (sym is ∙ lost)

  pub on_err : (P : Type 0) → OnErr answer P → OnErr result P
  on_err P h = subst (λ (r : Result T StoreErr). OnErr r P) (sym is) (err-as P answer h)

-- A store that had failed, from within and as its caller has it: the error is told again, and only the room may change.
pub failed_before : {T : Type 0} (inside m : Memory) (n used : ℕ) (waiting : List Waiting) (result : Result T StoreErr)
    (e : StoreErr) → inside ≡ m → used + length waiting ≡ 0 → IsErrAnd result (λ f. f ≡ e) → m.failed ≡ Some e
    → Changes n m (record inside { used = used; waiting = waiting }) (result_err result)
failed_before inside m n used waiting result e seen idle is failed = record {
  reports = reports_unused inside m used waiting seen;
  idle = idle;
  ready = none_ready result e _ is;
  tells = error_tells inside.failed result e is (ap (λ (x : Memory). x.failed) seen ∙ failed);
  writes = subst (λ (x : Memory). WritesAtMost n x.facts inside.facts) seen
      (reads_spend n inside inside (reads_same inside));
}

-- A store that worked, from within and as its caller has it, before a call and after it.
module _ (inside m new : Memory) (seen : inside ≡ m) (held : IsTrueToBoard inside) (working : m.failed ≡ None) where
  works : inside.failed ≡ None
  works = ap (λ (x : Memory). x.failed) seen ∙ working

  reports-as : {T : Type 0} (a : Result T DeviceErr) → new.failed ≡ result_err (store_result_of a)
      → Answered inside.facts new.facts a → IsSound new.facts.words → Reports inside new
  reports-as (Ok v) told light sound =
      let steady = light.ok refl in
      record {
        stuck = λ e h. let some : inside.failed ≡ Some e = h in absurd cc;
        works = λ h. (
          works,
          record {
            dark = steady.lit ∙ sym steady.was_lit;
            faults = steady.faults;
            cuts = steady.cuts;
            due = steady.due;
          },
        );
        fails = λ e none h. let some : new.failed ≡ Some e = h in absurd cc;
        sound = λ h. sound;
      }
  reports-as (Err x) told light sound = record {
    stuck = λ e h. let some : inside.failed ≡ Some e = h in absurd cc;
    works = λ h. let none : new.failed ≡ None = h in absurd cc;
    fails = λ e none h.
        let same : store_err_of x ≡ e = cc in
        let by : StoreErr → Type 0 = λ y. FailsBy y inside.facts new.facts in
        subst by same (fails_by x inside.facts new.facts (held.works works).lit light);
    sound = λ h. sound;
  }

  true-as : {T : Type 0} (a : Result T DeviceErr) → new.failed ≡ result_err (store_result_of a)
      → Answered inside.facts new.facts a → IsSound new.facts.words → OnOk a (gate new.facts.words ≡ new.used)
      → OnOk a (Fits (length new.facts.words) new.used new.waiting) → IsTrueToBoard new
  true-as (Ok v) told light sound counts batch = record {
    works = λ h. record {
      sound = sound;
      counts = counts;
      lit = (light.ok refl).lit;
      whole = batch.whole;
      few = batch.few;
      fits = batch.fits;
      sets = batch.sets;
    };
    lost = λ h. let some : new.failed ≡ Some PowerLost = h in absurd cc;
  }
  true-as (Err e) told light sound counts batch = record {
    works = λ h. let none : new.failed ≡ None = h in absurd cc;
    lost = λ h. let lost : store_err_of e ≡ PowerLost = cc in is_dark_by e inside.facts new.facts lost light;
  }

  open-as : {T : Type 0} (a : Result T DeviceErr) → new.failed ≡ result_err (store_result_of a)
      → Answered inside.facts new.facts a → IsMemory new.facts.words → AreWords new.facts.words
      → OnOk a (Fits (length new.facts.words) new.used new.waiting) → OnOk (store_result_of a) (IsOpen new)
  open-as (Ok v) told light size fit batch = open-from new told (light.ok refl).lit size fit batch
  open-as (Err e) told light size fit batch = tt

  ready-as : {T : Type 0} (a : Result T DeviceErr) → new.failed ≡ result_err (store_result_of a)
      → Answered inside.facts new.facts a → IsMemory new.facts.words → AreWords new.facts.words
      → OnOk a (gate new.facts.words ≡ 0) → IsIdle new → UnlessFailed (result_err (store_result_of a)) (IsReady new)
  ready-as (Ok v) told light size fit shut idle = ready-from new told (light.ok refl).lit size fit shut idle
  ready-as (Err e) told light size fit shut idle = tt

  -- the device's answer, and the store's
  module _ {T : Type 0} (answer : Result T DeviceErr) (result : Result T StoreErr)
      (is : result ≡ store_result_of answer) (failed : new.failed ≡ option_or (result_err result) inside.failed)
      (light : Answered inside.facts new.facts answer) where
    tells : new.failed ≡ result_err result
    tells = noted_tells inside.failed new.failed result works failed

    told : new.failed ≡ result_err (store_result_of answer)
    told = tells ∙ ap (λ (r : Result T StoreErr). result_err r) is

    pub noted-reports : IsSound new.facts.words → Reports m new
    noted-reports sound =
        subst (λ (x : Memory). Reports x new) seen (reports-as answer told light sound)

    pub noted-true : IsSound new.facts.words → OnOk answer (gate new.facts.words ≡ new.used)
        → OnOk answer (Fits (length new.facts.words) new.used new.waiting) → IsTrueToBoard new
    noted-true sound counts batch = true-as answer told light sound counts batch

    pub noted-open : IsMemory new.facts.words → AreWords new.facts.words
        → OnOk answer (Fits (length new.facts.words) new.used new.waiting) → OnOk result (IsOpen new)
    noted-open size fit batch =
        subst (λ (r : Result T StoreErr). OnOk r (IsOpen new)) (sym is) (open-as answer told light size fit batch)

    pub noted-ready : IsMemory new.facts.words → AreWords new.facts.words
        → OnOk answer (gate new.facts.words ≡ 0) → IsIdle new → UnlessFailed (result_err result) (IsReady new)
    noted-ready size fit shut idle =
        subst (λ (r : Result T StoreErr). UnlessFailed (result_err r) (IsReady new)) (sym is)
        (ready-as answer told light size fit shut idle)

    -- calls that may write, and end with no transaction
    pub noted-changes : (n : ℕ) → IsMemory new.facts.words → AreWords new.facts.words → IsSound new.facts.words
        → OnOk answer (gate new.facts.words ≡ 0) → IsIdle new → WritesAtMost n inside.facts new.facts
        → Changes n m new (result_err result)
    noted-changes n size fit sound shut idle costs = record {
      reports = noted-reports sound;
      idle = idle;
      ready = noted-ready size fit shut idle;
      tells = tells;
      writes = subst (λ (x : Memory). WritesAtMost n x.facts new.facts) seen costs;
    }

    -- what reads leave
    pub noted-reads : KeepsBoard inside.facts new.facts → new.used ≡ inside.used → new.waiting ≡ inside.waiting
        → OnlyReads m new
    noted-reads kept used waiting = record {
      board = subst (λ (x : Memory). KeepsBoard x.facts new.facts) seen kept;
      keeps = record {
        committed_words = ap (λ (l : List ℕ). data_words (undo l)) kept.words ∙ ap committed seen;
        current_words = ap₂ (λ (w : List Waiting) (l : List ℕ). data_words (overlay w l)) waiting kept.words
            ∙ ap current seen;
        taken = ap₂ (λ (u : ℕ) (w : List Waiting). u + length w) used waiting ∙ ap taken seen;
        waiting = waiting ∙ ap (λ (x : Memory). x.waiting) seen;
      };
      reports = noted-reports
          (subst (λ (l : List ℕ). IsSound l) (sym kept.words) (held.works works).sound);
    }
