use Rattle.std.proofs.Common.{◌∙◌, sym, true≢false}
use Rattle.std.proofs.lemmas.List.{take_rest}
use Rattle.card_sweeps.proofs.NewWords.{high-part, low-part, middle-part, new-within}
use Rattle.card_sweeps.proofs.written_runs.is_new_within.Goals as goal

pub returns : goal.returns
returns c = (
  λ is. new-within c.args.first c.args.end c.args.before.now c.args.after.now c.args.left.now
      c.if-left-before.false c.if-after-before.false
      (c.is_same.ensures.0 c.if-not-is_same.false) (c.is_same-3.ensures.0 is)
      (sym (take_rest c.args.left.now c.args.end) ∙ c.is_same-2.ensures.0 c.if-not-is_same-2.false
      ∙ take_rest c.args.before.now c.args.end),
  λ new. c.is_same-3.ensures.1
      (middle-part c.args.first c.args.end _ _ _ c.requires.order c.requires.inside new),
)

pub returns-then-left-before : goal.returns-then-left-before
returns-then-left-before c = (λ is. absurd (true≢false (sym is)), λ new. absurd (c.if-left-before.true new.sized.0))

pub returns-then-after-before : goal.returns-then-after-before
returns-then-after-before c = (λ is. absurd (true≢false (sym is)), λ new. absurd (c.if-after-before.true new.sized.1))

pub returns-then-not-is_same : goal.returns-then-not-is_same
returns-then-not-is_same c = (
  λ is. absurd (true≢false (sym is)),
  λ new.
      absurd (true≢false (sym (c.is_same.ensures.1
      (low-part c.args.first c.args.end _ _ _ c.requires.order c.requires.inside new)) ∙ c.if-not-is_same.true)),
)

pub returns-then-not-is_same-2 : goal.returns-then-not-is_same-2
returns-then-not-is_same-2 c = (
  λ is. absurd (true≢false (sym is)),
  λ new.
      absurd (true≢false (sym (c.is_same-2.ensures.1 (take_rest c.args.left.now c.args.end
      ∙ high-part c.args.first c.args.end _ _ _ c.requires.order c.requires.inside new
      ∙ sym (take_rest c.args.before.now c.args.end))) ∙ c.if-not-is_same-2.true)),
)
