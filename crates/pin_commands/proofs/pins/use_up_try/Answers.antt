use Rattle.std.specs.Prelude.{is_some, IsSome}
use Rattle.std.proofs.Common.{◌≡◌, ◌⊎◌, ◌<◌, ℕ, List, Err, Option, None, Some, Result, ap, sym, subst, ◌∙◌, inl}
use Rattle.std.proofs.Common.{arith, true≢false}
use Rattle.std.proofs.Math.Logic.{⊎_map}
use Rattle.undo_journal.specs.StoreCalls.{Changes, UnlessFailed}
use Rattle.undo_journal.specs.Memory.{Memory, committed, IsReady}
use Rattle.undo_journal.specs.Undo.{gate}
use Rattle.undo_journal.specs.laws.Told.{changes_after, reads_change}
use Rattle.card_model.specs.Secrets.{charged_pin, owner, tries_left}
use Rattle.card_model.specs.declared.status.Sw.{Sw}
use Rattle.pin_store.specs.Pages.{pin_at, ArePinPages, SetsPin}
use Rattle.pin_store.specs.Trials.{store_failure, Charges}
use Rattle.pin_store.specs.declared.errors.PinErr.{PinErr}
use Rattle.pin_store.specs.declared.errors.PinErr.TheVariants as pin_err
use Rattle.command_base.specs.Stops.{failure_of, stop_of_pin, IfRefused}
use Rattle.command_base.specs.declared.stop.Stop.{Stop}
use Rattle.command_base.specs.declared.stop.Stop.TheVariants.{Refused, Failed}
use Rattle.command_base.specs.laws.Stopping.{changes-stopped, finds-stopped, none-done}
use Rattle.pin_commands.proofs.pins.use_up_try.Goals as goal

-- what stops a charge: no try is left, or the store failed
charge-failed : {T : Type 0} (a b : Memory) (told : Result T PinErr) (e : PinErr) → told ≡ Err e
    → Changes 1 a b (store_failure told) → Changes 1 a b (failure_of (stop_of_pin e))
charge-failed {T} a b told pin_err.Blocked is changes =
    subst (λ (r : Result T PinErr). Changes 1 a b (store_failure r)) is changes
charge-failed {T} a b told (pin_err.Store e) is changes =
    subst (λ (r : Result T PinErr). Changes 1 a b (store_failure r)) is changes

-- a refusal that is due is told, and the store is ready
refusal-told : (due : Option Sw) (new : Memory) (stop : Stop) → IfRefused stop (λ status. due ≡ Some status)
    → UnlessFailed (failure_of stop) (IsReady new) → IfRefused stop (λ status. (due ≡ Some status) × IsReady new)
refusal-told due new (Refused status) told ready = (told, ready)
refusal-told due new (Failed e) told ready = tt

-- where no refusal is due there is none
none-due : (due : Option Sw) → due ≡ None → IsSome due → ⊥
none-due due none some = true≢false (sym some ∙ ap (λ (o : Option Sw). is_some o) none)

-- a try that is used up after reads
charges-after : (secret : ℕ) (a b c : Memory) → committed b ≡ committed a → Charges secret b c → Charges secret a c
charges-after secret a b c same charges = record {
  left = subst (λ (l : List ℕ). 0 < tries_left secret (pin_at l (owner secret))) same charges.left;
  charged = subst
      (λ (l : List ℕ). SetsPin l (owner secret) (charged_pin secret (pin_at l (owner secret))) (committed c))
      same charges.charged;
}

charges-or-not : (secret : ℕ) (a b c : Memory) → committed b ≡ committed a
    → (committed c ≡ committed b) ⊎ Charges secret b c → (committed c ≡ committed a) ⊎ Charges secret a c
charges-or-not secret a b c same either =
    ⊎_map (λ stays. stays ∙ same) (λ charged. charges-after secret a b c same charged) either

pub returns-in_err-check_use-clause-done : goal.returns-in_err-check_use-clause-done
returns-in_err-check_use-clause-done g c =
    let stop = c.in_err-check_use.field-0.0 in
    finds-stopped _ stop c.from_residual.ensures.1 _ _
    (refusal-told _ c.check_use.new.store stop c.in_err-check_use.ensures.told c.in_err-check_use.ensures.store.ready)

pub returns-in_err-check_use-clause-takes : goal.returns-in_err-check_use-clause-takes
returns-in_err-check_use-clause-takes g c =
    let only = c.check_use.ensures.store.only in
    let stop = c.in_err-check_use.field-0.0 in record {
      any_exit = inl only.keeps.committed_words;
      kept = λ refused. only;
      pages = subst ArePinPages (sym only.keeps.committed_words) c.requires.pins.pages;
      shut = λ shut. ap gate only.board.words ∙ shut;
      store = changes-stopped _ stop c.from_residual.ensures.1 1 _ _
          (reads_change 1 _ _ _ c.requires.pins.ready.idle c.in_err-check_use.ensures.store);
      counted = none-done _ stop _ c.from_residual.ensures.1;
    }

pub returns-in_err-charge-clause-takes : goal.returns-in_err-charge-clause-takes
returns-in_err-charge-clause-takes g c =
    let only = c.check_use.ensures.store.only in
    let takes = c.charge.ensures.takes in
    let stop = stop_of_pin c.in_err-charge.field-0.0 in record {
      any_exit = charges-or-not c.args.secret _ _ _ only.keeps.committed_words takes.any_exit;
      kept = λ refused. absurd (none-due _ c.in_ok-check_use.ensures.told refused);
      pages = takes.pages;
      shut = λ shut. takes.shut (ap gate only.board.words ∙ shut);
      store = changes-stopped _ stop c.from_residual-in_err-charge.ensures.1 1 _ _
          (changes_after 1 _ _ _ _ only (charge-failed _ _ c.charge.result c.in_err-charge.field-0.0 c.in_err-charge.was
          takes.store));
      counted = none-done _ stop _ c.from_residual-in_err-charge.ensures.1;
    }

pub returns-clause-takes : goal.returns-clause-takes
returns-clause-takes g c =
    let only = c.check_use.ensures.store.only in
    let takes = c.in_ok-charge.ensures.takes in record {
      any_exit = charges-or-not c.args.secret _ _ _ only.keeps.committed_words takes.any_exit;
      kept = λ refused. absurd (none-due _ c.in_ok-check_use.ensures.told refused);
      pages = takes.pages;
      shut = λ shut. takes.shut (ap gate only.board.words ∙ shut);
      store = changes_after 1 _ _ _ _ only takes.store;
      counted = let read = only.board.writes in let made = takes.counted in omega (arith, read, made);
    }

pub returns-clause-done : goal.returns-clause-done
returns-clause-done g c =
    let done = c.in_ok-charge.ensures.done in (
      done.0,
      charges-after c.args.secret _ _ _ c.check_use.ensures.store.only.keeps.committed_words done.1,
      c.in_ok-check_use.ensures.told,
    )
