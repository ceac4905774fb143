use Rattle.std.proofs.Common.{sym, arith}
use Rattle.std.proofs.lemmas.List.{take_rest, length-drop}
use Rattle.ef_body.proofs.Passing.{passed_on}
use Rattle.ef_body.proofs.search.next_candidate.Goals as goal

pub returns-in-Some-memchr-clause-passed : goal.returns-in-Some-memchr-clause-passed
returns-in-Some-memchr-clause-passed c =
    let found = c.in-Some-memchr.ensures in
    let high = found.0.high in
    passed_on c.args.text.now c.args.bytes.now _ c.in-Some.first.now c.args.from c.in-Some-memchr.place
    (take_rest c.args.bytes.now c.args.from) (sym c.in-Some.ensures.value)
    (λ j low. found.0.before j (omega arith) low) (omega (arith, high))

pub returns-in-None-clause-passed : goal.returns-in-None-clause-passed
returns-in-None-clause-passed c =
    let none = c.in-None.ensures in
    let rest = length-drop c.args.from c.args.bytes.now in
    λ k from lt. passed_on c.args.text.now c.args.bytes.now _ c.in-Some.first.now c.args.from _
    (take_rest c.args.bytes.now c.args.from) (sym c.in-Some.ensures.value)
    (λ j low. none j (omega arith) low) (omega arith) k from (omega (arith, lt))
