use Rattle.card_model.specs.Secrets.{changed_pin, marked_pin, reset_pin, verified_pin}
use Rattle.pin_store.specs.Trials.{pin_in}
use Rattle.pin_store.specs.laws.Tries.{charge_keeps_law, end_keeps_law, verified_ends, changed_ends}
use Rattle.pin_store.specs.laws.Tries.{marked_ends, reset_ends}
use Rattle.pin_store.proofs.laws.a_comparison_costs_a_try.Goals as goal

pub returns-clause-charge : goal.returns-clause-charge
returns-clause-charge c = charge_keeps_law

pub returns-clause-settle : goal.returns-clause-settle
returns-clause-settle c = λ secret shown a b d small.
    end_keeps_law 1 secret shown (verified_pin (pin_in b secret)) a b d (verified_ends secret (pin_in b secret) small)

pub returns-clause-change : goal.returns-clause-change
returns-clause-change c = λ secret shown new a b d small.
    end_keeps_law 5 secret shown (changed_pin new (pin_in b secret)) a b d
    (changed_ends secret new (pin_in b secret) small)

pub returns-clause-reset : goal.returns-clause-reset
returns-clause-reset c = λ secret shown new a b d large.
    end_keeps_law 4 secret shown (reset_pin new (pin_in b secret)) a b d
    (reset_ends secret new (pin_in b secret) large)

pub returns-clause-mark : goal.returns-clause-mark
returns-clause-mark c = λ secret shown enabled a b d small.
    end_keeps_law 5 secret shown (marked_pin enabled (pin_in b secret)) a b d
    (marked_ends secret enabled (pin_in b secret) small)
