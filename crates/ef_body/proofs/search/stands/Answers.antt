use Rattle.std.proofs.Common.{◌<◌, ◌≤◌, ◌+◌, ◌∙◌, sym, arith, below_more, length, ⊎_elim}
use Rattle.std.proofs.lemmas.Bool.{cases_lt}
use Rattle.ef_body.proofs.Finding.{stands_at, stands_nowhere}
use Rattle.ef_body.proofs.search.stands.Goals as goal

pub loop-at-preserved : goal.loop-at-preserved
loop-at-preserved c =
    let at = c.loop-at.at in
    let so_far = below_more _ _ c.loop-at.invariant.passed (sym c.begins_at.ensures ∙ c.if-begins_at.false) in
    record {
      within = c.next_candidate-at-in-loop-at.ensures.within;
      passed = λ k lt. ⊎_elim (λ (before : k < at + 1). so_far k before)
          (λ (behind : at + 1 ≤ k). c.next_candidate-at-in-loop-at.ensures.passed k behind lt)
          (cases_lt k (at + 1));
    }

pub returns-then-begins_at : goal.returns-then-begins_at
returns-then-begins_at c =
    let lt : c.loop-at.at < length c.args.bytes.now = c.loop-at-test.true in
    sym (stands_at c.args.text.now c.args.bytes.now c.loop-at.at lt (sym c.begins_at.ensures ∙ c.if-begins_at.true))

pub returns : goal.returns
returns c =
    sym (stands_nowhere c.args.text.now c.args.bytes.now (λ k lt.
    let below : k < c.loop-at.at = omega (arith, lt, c.loop-at-test.false) in
    c.loop-at.invariant.passed k below))
