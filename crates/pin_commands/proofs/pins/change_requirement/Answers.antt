use Rattle.std.proofs.Common.{◌≡◌, ◌⊎◌, ◌<◌, ◌-◌, Bool, refl, subst, arith}
use Rattle.undo_journal.specs.Commits.{TurnsTo}
use Rattle.undo_journal.specs.Memory.{committed}
use Rattle.card_model.specs.Secrets.{marked_pin}
use Rattle.pin_store.specs.Trials.{pin_in, EndsByOutcome, SetsByMatch}
use Rattle.pin_store.specs.laws.Tries.{marked_ends}
use Rattle.card_model.specs.PinCommands.{is_enabled_by}
use Rattle.pin_commands.proofs.Attempts.{charge-stopped, end-made, end-torn, kept-by, refused-by}
use Rattle.pin_commands.proofs.Attempts.{requires_or_not, taken-by}
use Rattle.command_base.specs.laws.Stopping.{reply-failed}
use Rattle.pin_commands.proofs.pins.change_requirement.Goals as goal

pub returns-in_err-charged : goal.returns-in_err-charged
returns-in_err-charged g c =
    let was = pin_in c.args.store.now c.value_of-secret.result in
    charge-stopped _ _ (requires_or_not c.args.pin c.value_of-secret.ensures.in_range c.args.change c.args.shown.now)
    5 refl c.args.store.now c.args.current.now c.requires.kept.ready c.requires.kept.card c.requires.kept.current
    c.value_of-secret.result c.value_of-secret.ensures.secret
    c.use_up_try.new.store _ c.in_err-charged.field-0.0 c.from_residual.ensures.1 c.use_up_try.ensures.takes.any_exit
    (kept-by c.value_of-secret.result _ _ c.usable_by.ensures was _ _ c.use_up_try.ensures.takes.kept)
    c.use_up_try.ensures.takes.pages
    c.use_up_try.ensures.takes.store.reports c.in_err-charged.ensures.takes.store.tells
    c.use_up_try.ensures.takes.store.writes
    c.use_up_try.ensures.takes.shut (refused-by
    c.value_of-secret.result _ _ c.usable_by.ensures was _ _ c.in_err-charged.ensures.done)

pub returns-in_err-outcome : goal.returns-in_err-outcome
returns-in_err-outcome g c =
    let first = c.value_of-secret.ensures.in_range.first in
    let last = c.value_of-secret.ensures.in_range.last in
    let small : c.args.pin - 1 < 8 = omega (arith, first, last) in
    let was = pin_in c.args.store.now c.value_of-secret.result in
    let b = c.use_up_try.new.store in
    let e = c.set_enabled.new.store in
    let exit = subst (λ (on : Bool). (committed e ≡ committed b)
    ⊎ SetsByMatch c.in_ok-charged.charged c.args.shown.now (marked_pin on (pin_in b c.in_ok-charged.charged)) b e)
    c.is_enabled_by.ensures c.set_enabled.ensures.any_exit in
    let settles = subst (λ (on : Bool). TurnsTo (λ after. SetsByMatch c.in_ok-charged.charged c.args.shown.now
    (marked_pin on (pin_in b c.in_ok-charged.charged)) b e) b e)
    c.is_enabled_by.ensures c.set_enabled.ensures.by_gate.1 in
    end-torn _ _ (requires_or_not c.args.pin c.value_of-secret.ensures.in_range c.args.change c.args.shown.now) 5
    refl c.args.store.now
    c.args.current.now c.requires.kept.ready c.requires.kept.card c.requires.kept.current
    c.value_of-secret.result c.value_of-secret.ensures.secret b e c.in_ok-charged.charged
    (taken-by c.value_of-secret.result _ _ c.usable_by.ensures was _ _ _ c.in_ok-charged.ensures.done)
    c.use_up_try.ensures.takes.pages c.use_up_try.ensures.takes.store.writes
    c.use_up_try.ensures.takes.store.reports c.in_ok-charged.ensures.takes.store.ready
    c.in_ok-charged.ensures.takes.counted (λ p. marked_ends (c.args.pin - 1)
    (is_enabled_by c.args.change) p small) exit
    c.set_enabled.ensures.spends c.set_enabled.ensures.pages c.set_enabled.ensures.store.reports
    c.use_up_try.ensures.takes.shut
    c.set_enabled.ensures.between
    c.set_enabled.ensures.by_gate.0 (λ renews. settles) _
    c.in_err-outcome.field-0.0 (reply-failed _ _ c.from_residual-in_err-outcome.ensures.1)
    c.in_err-outcome.ensures.store.tells

pub returns : goal.returns
returns g c =
    let first = c.value_of-secret.ensures.in_range.first in
    let last = c.value_of-secret.ensures.in_range.last in
    let small : c.args.pin - 1 < 8 = omega (arith, first, last) in
    let was = pin_in c.args.store.now c.value_of-secret.result in
    let b = c.use_up_try.new.store in
    let e = c.set_enabled.new.store in
    let exit = subst (λ (on : Bool). (committed e ≡ committed b)
    ⊎ SetsByMatch c.in_ok-charged.charged c.args.shown.now (marked_pin on (pin_in b c.in_ok-charged.charged)) b e)
    c.is_enabled_by.ensures c.set_enabled.ensures.any_exit in
    let settles = subst (λ (on : Bool). TurnsTo (λ after. SetsByMatch c.in_ok-charged.charged c.args.shown.now
    (marked_pin on (pin_in b c.in_ok-charged.charged)) b e) b e)
    c.is_enabled_by.ensures c.set_enabled.ensures.by_gate.1 in
    let ended = subst (λ (on : Bool). EndsByOutcome c.in_ok-charged.charged c.args.shown.now
    (marked_pin on (pin_in b c.in_ok-charged.charged)) b e c.in_ok-outcome.outcome) c.is_enabled_by.ensures
    c.in_ok-outcome.ensures.done in
    end-made _ _ (requires_or_not c.args.pin c.value_of-secret.ensures.in_range c.args.change c.args.shown.now) 5
    refl c.args.store.now
    c.args.current.now c.requires.kept.ready c.requires.kept.card c.requires.kept.current
    c.value_of-secret.result c.value_of-secret.ensures.secret b e c.in_ok-charged.charged
    (taken-by c.value_of-secret.result _ _ c.usable_by.ensures was _ _ _ c.in_ok-charged.ensures.done)
    c.use_up_try.ensures.takes.pages c.use_up_try.ensures.takes.store.writes
    c.use_up_try.ensures.takes.store.reports c.in_ok-charged.ensures.takes.store.ready
    c.in_ok-charged.ensures.takes.counted (λ p. marked_ends (c.args.pin - 1)
    (is_enabled_by c.args.change) p small) exit
    c.set_enabled.ensures.spends c.set_enabled.ensures.pages c.set_enabled.ensures.store.reports
    c.use_up_try.ensures.takes.shut
    c.set_enabled.ensures.between
    c.set_enabled.ensures.by_gate.0 (λ renews. settles) c.in_ok-outcome.outcome
    ended c.in_ok-outcome.ensures.store.ready
    c.end_attempt.new.current c.end_attempt.ensures.session
    c.end_attempt.result c.end_attempt.ensures.status

pub use_up_try-requires : goal.use_up_try-requires
use_up_try-requires g c = record {
  pins = record {
    ready = c.requires.kept.ready;
    pages = c.requires.kept.card.pins;
  };
}

pub set_enabled-requires-clause-pins : goal.set_enabled-requires-clause-pins
set_enabled-requires-clause-pins g c = record {
  ready = c.in_ok-charged.ensures.takes.store.ready;
  pages = c.use_up_try.ensures.takes.pages;
}
