use Rattle.std.proofs.Common.{◌<◌, ◌-◌, refl, arith}
use Rattle.pin_store.specs.laws.Tries.{changed_ends}
use Rattle.pin_commands.proofs.Attempts.{charge-stopped, end-made, end-torn, changes}
use Rattle.command_base.specs.laws.Stopping.{reply-failed}
use Rattle.pin_commands.proofs.pins.change_reference_data.Goals as goal

pub returns-in_err-charged : goal.returns-in_err-charged
returns-in_err-charged g c =
    charge-stopped _ _ (changes c.args.pin c.value_of-secret.ensures.in_range c.args.values.shown.now
    c.args.values.new.now) 5
    refl c.args.store.now c.args.current.now
    c.requires.kept.ready c.requires.kept.card c.requires.kept.current
    c.value_of-secret.result c.value_of-secret.ensures.secret c.use_up_try.new.store _ c.in_err-charged.field-0.0
    c.from_residual.ensures.1 c.use_up_try.ensures.takes.any_exit c.use_up_try.ensures.takes.kept
    c.use_up_try.ensures.takes.pages c.use_up_try.ensures.takes.store.reports
    c.in_err-charged.ensures.takes.store.tells
    c.use_up_try.ensures.takes.store.writes c.use_up_try.ensures.takes.shut c.in_err-charged.ensures.done

pub returns-in_err-outcome : goal.returns-in_err-outcome
returns-in_err-outcome g c =
    let first = c.value_of-secret.ensures.in_range.first in
    let last = c.value_of-secret.ensures.in_range.last in
    let small : c.args.pin - 1 < 8 = omega (arith, first, last) in
    end-torn _ _ (changes c.args.pin c.value_of-secret.ensures.in_range c.args.values.shown.now
    c.args.values.new.now) 5
    refl c.args.store.now c.args.current.now c.requires.kept.ready c.requires.kept.card
    c.requires.kept.current
    c.value_of-secret.result c.value_of-secret.ensures.secret c.use_up_try.new.store c.change.new.store
    c.in_ok-charged.charged
    c.in_ok-charged.ensures.done c.use_up_try.ensures.takes.pages c.use_up_try.ensures.takes.store.writes
    c.use_up_try.ensures.takes.store.reports c.in_ok-charged.ensures.takes.store.ready
    c.in_ok-charged.ensures.takes.counted (λ p. changed_ends (c.args.pin - 1) c.args.values.new.now p small)
    c.change.ensures.any_exit c.change.ensures.spends c.change.ensures.pages c.change.ensures.store.reports
    c.use_up_try.ensures.takes.shut c.change.ensures.between c.change.ensures.by_gate.0
    (λ renews. c.change.ensures.by_gate.1) _
    c.in_err-outcome.field-0.0 (reply-failed _ _ c.from_residual-in_err-outcome.ensures.1)
    c.in_err-outcome.ensures.store.tells

pub returns : goal.returns
returns g c =
    let first = c.value_of-secret.ensures.in_range.first in
    let last = c.value_of-secret.ensures.in_range.last in
    let small : c.args.pin - 1 < 8 = omega (arith, first, last) in
    end-made _ _ (changes c.args.pin c.value_of-secret.ensures.in_range c.args.values.shown.now
    c.args.values.new.now) 5
    refl c.args.store.now c.args.current.now c.requires.kept.ready c.requires.kept.card
    c.requires.kept.current
    c.value_of-secret.result c.value_of-secret.ensures.secret c.use_up_try.new.store c.change.new.store
    c.in_ok-charged.charged
    c.in_ok-charged.ensures.done c.use_up_try.ensures.takes.pages c.use_up_try.ensures.takes.store.writes
    c.use_up_try.ensures.takes.store.reports c.in_ok-charged.ensures.takes.store.ready
    c.in_ok-charged.ensures.takes.counted (λ p. changed_ends (c.args.pin - 1) c.args.values.new.now p small)
    c.change.ensures.any_exit c.change.ensures.spends c.change.ensures.pages c.change.ensures.store.reports
    c.use_up_try.ensures.takes.shut c.change.ensures.between c.change.ensures.by_gate.0
    (λ renews. c.change.ensures.by_gate.1)
    c.in_ok-outcome.outcome
    c.in_ok-outcome.ensures.done c.in_ok-outcome.ensures.store.ready
    c.end_attempt.new.current c.end_attempt.ensures.session
    c.end_attempt.result c.end_attempt.ensures.status

pub use_up_try-requires : goal.use_up_try-requires
use_up_try-requires g c = record {
  pins = record {
    ready = c.requires.kept.ready;
    pages = c.requires.kept.card.pins;
  };
}

pub change-requires-clause-pins : goal.change-requires-clause-pins
change-requires-clause-pins g c = record {
  ready = c.in_ok-charged.ensures.takes.store.ready;
  pages = c.use_up_try.ensures.takes.pages;
}
