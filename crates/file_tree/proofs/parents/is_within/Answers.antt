use Rattle.std.proofs.Common.{rules, ◌≡◌, ◌+◌, ◌-◌, ℕ, suc, ◌∙◌, ap, arith, sym}
use Rattle.std.proofs.lemmas.Bool.{eqb-true, eqb-false}
use Rattle.file_tree.specs.Subtrees.{leads}
use Rattle.file_tree.specs.laws.Subtrees.{leads-step, leads-here, leads-zero, leads-fixed}
use Rattle.file_tree.proofs.parents.is_within.Goals as goal

pub loop-step-preserved : goal.loop-step-preserved
loop-step-preserved g c =
    let top = c.args.top in
    let at = c.loop-step.at in
    let one : 7 - c.loop-step._step ≡ suc (7 - (c.loop-step._step + 1)) = omega (arith, c.loop-step-test.true) in
    record {
      small = search rules;
      same = λ parent tells. c.loop-step.invariant.same parent tells ∙ ap (λ (n : ℕ). leads parent n top at) one
          ∙ leads-step parent (7 - (c.loop-step._step + 1)) top at
          (eqb-false _ _ (sym c.eq.ensures ∙ c.if-eq.false))
          ∙ ap (leads parent (7 - (c.loop-step._step + 1)) top)
          (sym (tells at _ c.loop-step.invariant.small c.parent_of-parent.ensures));
    }

pub returns-then-eq : goal.returns-then-eq
returns-then-eq g c = λ parent tells.
    sym (c.loop-step.invariant.same parent tells
    ∙ leads-here parent (7 - c.loop-step._step) c.args.top c.loop-step.at
    (eqb-true _ _ (sym c.eq.ensures ∙ c.if-eq.true)))

pub returns-then-eq-2 : goal.returns-then-eq-2
returns-then-eq-2 g c = λ parent tells.
    let is = tells c.loop-step.at _ c.loop-step.invariant.small c.parent_of-parent.ensures in
    let own = sym is ∙ eqb-true _ _ (sym c.eq-in-loop-step.ensures ∙ c.if-eq-2.true) in
    sym (c.loop-step.invariant.same parent tells
    ∙ leads-fixed parent (7 - c.loop-step._step) c.args.top c.loop-step.at own
    (eqb-false _ _ (sym c.eq.ensures ∙ c.if-eq.false)))

pub returns : goal.returns
returns g c = λ parent tells.
    c.eq-2.ensures ∙ sym (c.loop-step.invariant.same parent tells
    ∙ leads-zero parent (7 - c.loop-step._step) c.args.top c.loop-step.at (omega (arith, c.loop-step-test.false)))
