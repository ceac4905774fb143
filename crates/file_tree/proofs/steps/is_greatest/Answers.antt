use Rattle.std.proofs.Common.{◌<◌, ◌≤◌, ◌+◌, ◌-◌, length, refl, arith}
use Rattle.file_tree.specs.laws.Indexes.{all_before}
use Rattle.file_tree.proofs.steps.is_greatest.Goals as goal

pub returns-then-end-eq0 : goal.returns-then-end-eq0
returns-then-end-eq0 c = λ up. (λ _. λ k d lt. absurd (omega (arith, lt, c.if-end-eq0.true)), λ _. refl)

pub returns-in-Less : goal.returns-in-Less
returns-in-Less c = λ up.
    let places = c.args.places.now in
    let some = c.if-end-eq0.false in
    let last : length places - 1 < length places = omega (arith, some) in
    let most : length places ≤ length places - 1 + 1 = omega (arith, some) in (
      λ _. all_before places c.args.key.now (length places - 1) c.index-places-end.result last most up
          c.in-Less.ensures.order,
      λ _. refl,
    )
