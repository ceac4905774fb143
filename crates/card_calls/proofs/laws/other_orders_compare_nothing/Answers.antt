use Rattle.card_calls.proofs.InStepLaws.{compares-none, in_step}
use Rattle.card_calls.proofs.laws.other_orders_compare_nothing.Goals as goal

pub returns-clause-nothing : goal.returns-clause-nothing
returns-clause-nothing c = compares-none

pub returns-clause-in_step : goal.returns-clause-in_step
returns-clause-in_step c = in_step
