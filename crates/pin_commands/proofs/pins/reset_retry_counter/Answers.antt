use Rattle.std.proofs.Common.{Ok, ◌≤◌, ◌+◌, ◌-◌, ℕ, List, [], Option, option_map, refl, sym, ap, subst, arith}
use Rattle.pin_store.specs.laws.Tries.{reset_ends}
use Rattle.card_model.specs.Requests.{reset_retry_counter}
use Rattle.apdu_core.specs.declared.pins.Replacement.{Replacement}
use Rattle.command_base.specs.Served.{Executes}
use Rattle.pin_commands.proofs.Attempts.{asks-unblocking, charge-stopped, end-made, end-torn, question-answered, resets}
use Rattle.command_base.specs.Stops.{reply}
use Rattle.command_base.specs.laws.Executes.{handed}
use Rattle.command_base.specs.laws.Stopping.{reply-failed}
use Rattle.pin_commands.proofs.pins.reset_retry_counter.Goals as goal

pub returns-in_default : goal.returns-in_default
returns-in_default g c =
    let none = ap (option_map (λ (values : Replacement). (values.shown.now, values.new.now))) c.in_default.is in
    subst (λ (values : Option (List ℕ × List ℕ)). Executes (reset_retry_counter c.args.pin values) c.args.store.now
    c.args.current.now c.query_tries.new.store c.args.current.now [] (Ok c.in_ok-query_tries.field-0)) (sym none)
    (question-answered _ c.args.pin (8 + (c.args.pin - 1)) (asks-unblocking c.args.pin
    c.unblocking_value_of-secret.ensures.in_range) c.args.store.now
    c.args.current.now c.requires.kept.card c.requires.kept.current
    c.unblocking_value_of-secret.result c.unblocking_value_of-secret.ensures.secret
    c.query_tries.new.store (Ok c.in_ok-query_tries.field-0)
    c.in_ok-query_tries.ensures.told c.in_ok-query_tries.ensures.store)

pub returns-in_err-query_tries : goal.returns-in_err-query_tries
returns-in_err-query_tries g c =
    handed (reset_retry_counter c.args.pin _) c.args.store.now c.args.current.now
    c.query_tries.new.store c.requires.kept.card c.args.current.now [] _ _ (reply-failed _ _
    c.from_residual.ensures.1)
    c.in_err-query_tries.ensures.store (omega arith)

pub returns-in_err-charged : goal.returns-in_err-charged
returns-in_err-charged g c =
    let some = ap (option_map (λ (values : Replacement). (values.shown.now, values.new.now))) c.in-Some.is in
    subst (λ (shown : Option (List ℕ × List ℕ)). Executes
    (reset_retry_counter c.args.pin shown) c.args.store.now c.args.current.now
    c.use_up_try.new.store c.args.current.now [] (reply c.from_residual-in_err-charged.result)) (sym some)
    (charge-stopped _ _ (resets c.args.pin c.unblocking_value_of-secret.ensures.in_range c.in-Some.values.shown.now
    c.in-Some.values.new.now) 4
    refl c.args.store.now c.args.current.now
    c.requires.kept.ready c.requires.kept.card c.requires.kept.current
    c.unblocking_value_of-secret.result c.unblocking_value_of-secret.ensures.secret c.use_up_try.new.store _
    c.in_err-charged.field-0.0
    c.from_residual-in_err-charged.ensures.1 c.use_up_try.ensures.takes.any_exit c.use_up_try.ensures.takes.kept
    c.use_up_try.ensures.takes.pages c.use_up_try.ensures.takes.store.reports
    c.in_err-charged.ensures.takes.store.tells
    c.use_up_try.ensures.takes.store.writes c.use_up_try.ensures.takes.shut c.in_err-charged.ensures.done)

pub returns-in_err-outcome : goal.returns-in_err-outcome
returns-in_err-outcome g c =
    let large : 8 ≤ 8 + (c.args.pin - 1) = omega arith in
    let some = ap (option_map (λ (values : Replacement). (values.shown.now, values.new.now))) c.in-Some.is in
    subst (λ (shown : Option (List ℕ × List ℕ)). Executes
    (reset_retry_counter c.args.pin shown) c.args.store.now c.args.current.now
    c.reset_counter.new.store c.args.current.now [] (reply c.from_residual-in_err-outcome.result)) (sym some)
    (end-torn _ _ (resets c.args.pin c.unblocking_value_of-secret.ensures.in_range c.in-Some.values.shown.now
    c.in-Some.values.new.now) 4
    refl c.args.store.now c.args.current.now c.requires.kept.ready c.requires.kept.card
    c.requires.kept.current
    c.unblocking_value_of-secret.result c.unblocking_value_of-secret.ensures.secret c.use_up_try.new.store
    c.reset_counter.new.store c.in_ok-charged.charged
    c.in_ok-charged.ensures.done c.use_up_try.ensures.takes.pages c.use_up_try.ensures.takes.store.writes
    c.use_up_try.ensures.takes.store.reports c.in_ok-charged.ensures.takes.store.ready
    c.in_ok-charged.ensures.takes.counted (λ p. reset_ends (8 + (c.args.pin - 1)) c.in-Some.values.new.now p large)
    c.reset_counter.ensures.any_exit c.reset_counter.ensures.spends c.reset_counter.ensures.pages
    c.reset_counter.ensures.store.reports c.use_up_try.ensures.takes.shut c.reset_counter.ensures.between
    c.reset_counter.ensures.by_gate.0 (λ renews.
    c.reset_counter.ensures.by_gate.1) _
    c.in_err-outcome.field-0.0 (reply-failed _ _ c.from_residual-in_err-outcome.ensures.1)
    c.in_err-outcome.ensures.store.tells)

pub returns : goal.returns
returns g c =
    let large : 8 ≤ 8 + (c.args.pin - 1) = omega arith in
    let some = ap (option_map (λ (values : Replacement). (values.shown.now, values.new.now))) c.in-Some.is in
    subst (λ (shown : Option (List ℕ × List ℕ)). Executes
    (reset_retry_counter c.args.pin shown) c.args.store.now c.args.current.now
    c.reset_counter.new.store c.end_attempt.new.current [] (Ok c.end_attempt.result)) (sym some)
    (end-made _ _ (resets c.args.pin c.unblocking_value_of-secret.ensures.in_range c.in-Some.values.shown.now
    c.in-Some.values.new.now) 4
    refl c.args.store.now c.args.current.now c.requires.kept.ready c.requires.kept.card
    c.requires.kept.current
    c.unblocking_value_of-secret.result c.unblocking_value_of-secret.ensures.secret c.use_up_try.new.store
    c.reset_counter.new.store c.in_ok-charged.charged
    c.in_ok-charged.ensures.done c.use_up_try.ensures.takes.pages c.use_up_try.ensures.takes.store.writes
    c.use_up_try.ensures.takes.store.reports c.in_ok-charged.ensures.takes.store.ready
    c.in_ok-charged.ensures.takes.counted (λ p. reset_ends (8 + (c.args.pin - 1)) c.in-Some.values.new.now p large)
    c.reset_counter.ensures.any_exit c.reset_counter.ensures.spends
    c.reset_counter.ensures.pages c.reset_counter.ensures.store.reports c.use_up_try.ensures.takes.shut
    c.reset_counter.ensures.between
    c.reset_counter.ensures.by_gate.0 (λ renews. c.reset_counter.ensures.by_gate.1) c.in_ok-outcome.outcome
    c.in_ok-outcome.ensures.done c.in_ok-outcome.ensures.store.ready
    c.end_attempt.new.current c.end_attempt.ensures.session
    c.end_attempt.result c.end_attempt.ensures.status)

pub query_tries-requires : goal.query_tries-requires
query_tries-requires g c = record {
  pins = record {
    ready = c.requires.kept.ready;
    pages = c.requires.kept.card.pins;
  };
}

pub use_up_try-requires : goal.use_up_try-requires
use_up_try-requires g c = record {
  pins = record {
    ready = c.requires.kept.ready;
    pages = c.requires.kept.card.pins;
  };
}

pub reset_counter-requires-clause-pins : goal.reset_counter-requires-clause-pins
reset_counter-requires-clause-pins g c = record {
  ready = c.in_ok-charged.ensures.takes.store.ready;
  pages = c.use_up_try.ensures.takes.pages;
}
