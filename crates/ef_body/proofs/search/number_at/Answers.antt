use Rattle.std.proofs.Common.{sym, arith}
use Rattle.card_model.specs.laws.Finding.{steps_forward, steps_backward, number_forward, number_backward}
use Rattle.ef_body.proofs.search.number_at.Goals as goal

pub overflow_add-result : goal.overflow_add-result
overflow_add-result c =
    let many = steps_forward c.args.direction c.args.first c.args.records c.in-Forward.is in
    let lt = c.requires.step in
    omega (arith, many, lt)

pub overflow_sub-result : goal.overflow_sub-result
overflow_sub-result c =
    let many = steps_backward c.args.direction c.args.first c.args.records c.in-Backward.is in
    let lt = c.requires.step in
    omega (arith, many, lt)

pub returns-in-Forward-clause-number : goal.returns-in-Forward-clause-number
returns-in-Forward-clause-number c =
    sym (number_forward c.args.direction c.args.first c.args.records c.args.step c.in-Forward.is c.requires.step)

pub returns-in-Forward-clause-most : goal.returns-in-Forward-clause-most
returns-in-Forward-clause-most c =
    let many = steps_forward c.args.direction c.args.first c.args.records c.in-Forward.is in
    let lt = c.requires.step in
    omega (arith, many, lt)

pub returns-in-Backward-clause-number : goal.returns-in-Backward-clause-number
returns-in-Backward-clause-number c =
    sym (number_backward c.args.direction c.args.first c.args.records c.args.step c.in-Backward.is c.requires.step)

pub returns-in-Backward-clause-from : goal.returns-in-Backward-clause-from
returns-in-Backward-clause-from c =
    let many = steps_backward c.args.direction c.args.first c.args.records c.in-Backward.is in
    let lt = c.requires.step in
    omega (arith, many, lt)
