use Rattle.std.proofs.Common.{Ok, ◌≡◌, ◌<◌, ◌-◌, ℕ, true, false, List, [], Option, option_map, refl, sym, ap, subst}
use Rattle.std.proofs.Common.{Bor, arith}
use Rattle.pin_store.specs.laws.Tries.{verified_ends}
use Rattle.card_model.specs.Requests.{verify}
use Rattle.command_base.specs.Served.{Executes}
use Rattle.pin_commands.proofs.Attempts.{asks-value, charge-stopped, end-made, end-torn, question-answered, verifies}
use Rattle.command_base.specs.Stops.{reply}
use Rattle.command_base.specs.laws.Executes.{handed}
use Rattle.command_base.specs.laws.Stopping.{reply-failed}
use Rattle.pin_commands.proofs.pins.verify.Goals as goal

pub returns-in_default : goal.returns-in_default
returns-in_default g c =
    let none = ap (option_map (λ (value : Bor (List ℕ)). value.now)) c.in_default.is in
    subst (λ (shown : Option (List ℕ)). Executes (verify c.args.pin shown) c.args.store.now c.args.current.now
    c.query_tries.new.store c.args.current.now [] (Ok c.in_ok-query_tries.field-0)) (sym none)
    (question-answered _ c.args.pin (c.args.pin - 1) (asks-value c.args.pin c.value_of-secret.ensures.in_range)
    c.args.store.now
    c.args.current.now c.requires.kept.card c.requires.kept.current
    c.value_of-secret.result c.value_of-secret.ensures.secret
    c.query_tries.new.store (Ok c.in_ok-query_tries.field-0)
    c.in_ok-query_tries.ensures.told c.in_ok-query_tries.ensures.store)

pub returns-in_err-query_tries : goal.returns-in_err-query_tries
returns-in_err-query_tries g c =
    handed (verify c.args.pin _) c.args.store.now c.args.current.now c.query_tries.new.store c.requires.kept.card
    c.args.current.now [] _ _ (reply-failed _ _ c.from_residual.ensures.1)
    c.in_err-query_tries.ensures.store (omega arith)

pub returns-in_err-charged : goal.returns-in_err-charged
returns-in_err-charged g c =
    let some = ap (option_map (λ (value : Bor (List ℕ)). value.now)) c.in-Some.is in
    subst (λ (shown : Option (List ℕ)). Executes (verify c.args.pin shown) c.args.store.now c.args.current.now
    c.use_up_try.new.store c.args.current.now [] (reply c.from_residual-in_err-charged.result)) (sym some)
    (charge-stopped _ _ (verifies c.args.pin c.value_of-secret.ensures.in_range c.in-Some.shown.now) 1 refl
    c.args.store.now
    c.args.current.now
    c.requires.kept.ready c.requires.kept.card c.requires.kept.current
    c.value_of-secret.result c.value_of-secret.ensures.secret c.use_up_try.new.store _ c.in_err-charged.field-0.0
    c.from_residual-in_err-charged.ensures.1 c.use_up_try.ensures.takes.any_exit c.use_up_try.ensures.takes.kept
    c.use_up_try.ensures.takes.pages c.use_up_try.ensures.takes.store.reports
    c.in_err-charged.ensures.takes.store.tells
    c.use_up_try.ensures.takes.store.writes c.use_up_try.ensures.takes.shut c.in_err-charged.ensures.done)

pub returns-in_err-outcome : goal.returns-in_err-outcome
returns-in_err-outcome g c =
    let first = c.value_of-secret.ensures.in_range.first in
    let last = c.value_of-secret.ensures.in_range.last in
    let small : c.args.pin - 1 < 8 = omega (arith, first, last) in
    let some = ap (option_map (λ (value : Bor (List ℕ)). value.now)) c.in-Some.is in
    subst (λ (shown : Option (List ℕ)). Executes (verify c.args.pin shown) c.args.store.now c.args.current.now
    c.settle.new.store c.args.current.now [] (reply c.from_residual-in_err-outcome.result)) (sym some)
    (end-torn _ _ (verifies c.args.pin c.value_of-secret.ensures.in_range c.in-Some.shown.now) 1 refl
    c.args.store.now c.args.current.now
    c.requires.kept.ready c.requires.kept.card c.requires.kept.current
    c.value_of-secret.result c.value_of-secret.ensures.secret c.use_up_try.new.store c.settle.new.store
    c.in_ok-charged.charged c.in_ok-charged.ensures.done c.use_up_try.ensures.takes.pages
    c.use_up_try.ensures.takes.store.writes
    c.use_up_try.ensures.takes.store.reports c.in_ok-charged.ensures.takes.store.ready
    c.in_ok-charged.ensures.takes.counted (λ p. verified_ends (c.args.pin - 1) p small) c.settle.ensures.any_exit
    c.settle.ensures.spends c.settle.ensures.pages c.settle.ensures.store.reports c.use_up_try.ensures.takes.shut
    c.settle.ensures.between
    c.settle.ensures.by_gate (λ renews. let never : false ≡ true = renews in cc) _
    c.in_err-outcome.field-0.0 (reply-failed _ _ c.from_residual-in_err-outcome.ensures.1)
    c.in_err-outcome.ensures.store.tells)

pub returns : goal.returns
returns g c =
    let first = c.value_of-secret.ensures.in_range.first in
    let last = c.value_of-secret.ensures.in_range.last in
    let small : c.args.pin - 1 < 8 = omega (arith, first, last) in
    let some = ap (option_map (λ (value : Bor (List ℕ)). value.now)) c.in-Some.is in
    subst (λ (shown : Option (List ℕ)). Executes (verify c.args.pin shown) c.args.store.now c.args.current.now
    c.settle.new.store c.end_attempt.new.current [] (Ok c.end_attempt.result)) (sym some)
    (end-made _ _ (verifies c.args.pin c.value_of-secret.ensures.in_range c.in-Some.shown.now) 1 refl
    c.args.store.now c.args.current.now
    c.requires.kept.ready c.requires.kept.card c.requires.kept.current
    c.value_of-secret.result c.value_of-secret.ensures.secret c.use_up_try.new.store c.settle.new.store
    c.in_ok-charged.charged c.in_ok-charged.ensures.done c.use_up_try.ensures.takes.pages
    c.use_up_try.ensures.takes.store.writes
    c.use_up_try.ensures.takes.store.reports c.in_ok-charged.ensures.takes.store.ready
    c.in_ok-charged.ensures.takes.counted (λ p. verified_ends (c.args.pin - 1) p small) c.settle.ensures.any_exit
    c.settle.ensures.spends c.settle.ensures.pages c.settle.ensures.store.reports c.use_up_try.ensures.takes.shut
    c.settle.ensures.between
    c.settle.ensures.by_gate (λ renews. let never : false ≡ true = renews in cc) c.in_ok-outcome.outcome
    c.in_ok-outcome.ensures.done c.in_ok-outcome.ensures.store.ready
    c.end_attempt.new.current c.end_attempt.ensures.session
    c.end_attempt.result c.end_attempt.ensures.status)

pub query_tries-requires : goal.query_tries-requires
query_tries-requires g c = record {
  pins = record {
    ready = c.requires.kept.ready;
    pages = c.requires.kept.card.pins;
  };
}

pub use_up_try-requires : goal.use_up_try-requires
use_up_try-requires g c = record {
  pins = record {
    ready = c.requires.kept.ready;
    pages = c.requires.kept.card.pins;
  };
}

pub settle-requires-clause-pins : goal.settle-requires-clause-pins
settle-requires-clause-pins g c = record {
  ready = c.in_ok-charged.ensures.takes.store.ready;
  pages = c.use_up_try.ensures.takes.pages;
}
