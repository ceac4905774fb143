use Rattle.std.proofs.Common.{ℕ, ◌+◌, ◌-◌, ◌*◌, slice_index, ◌∙◌, ap, arith}
use Rattle.bench_lines.specs.laws.Numbers.{digit-at, digits-more, first_digits-bound}
use Rattle.bench_lines.proofs.order.decimal_value.Goals as goal

pub overflow_mul-value : goal.overflow_mul-value
overflow_mul-value c =
    let bound = first_digits-bound c.args.digits.now c.loop-digit.digit-index c.requires.decimal c.requires.size in
    omega (arith, bound, c.loop-digit.invariant)

pub overflow_add-value : goal.overflow_add-value
overflow_add-value c =
    let bound = first_digits-bound c.args.digits.now c.loop-digit.digit-index c.requires.decimal c.requires.size in
    let digit = digit-at c.args.digits.now c.loop-digit.digit-index c.requires.decimal c.loop-digit-test.true in
    omega (arith, bound, digit, c.loop-digit.invariant)

pub loop-digit-preserved : goal.loop-digit-preserved
loop-digit-preserved c =
    let more = digits-more c.args.digits.now c.loop-digit.digit-index c.requires.decimal c.loop-digit-test.true in
    ap (λ (n : ℕ). c.loop-digit.value * 10 + n) c.from.ensures
    ∙ ap (λ (n : ℕ). n * 10 + (slice_index c.args.digits.now c.loop-digit.digit-index - 48)) c.loop-digit.invariant
    ∙ more

pub returns-clause-bound : goal.returns-clause-bound
returns-clause-bound c =
    let bound = first_digits-bound c.args.digits.now c.loop-digit.digit-index c.requires.decimal c.requires.size in
    omega (arith, bound, c.loop-digit.invariant)
