use Rattle.std.proofs.Common.{◌≡◌, ◌∙◌, ◌-◌, ◌^◌, ap, arith, inl, inr, length, refl, sym}
use Rattle.std.proofs.lemmas.Grind.{common_steps}
use Rattle.sweep_reports.proofs.Reported.{write-put, writes-end, writes-next, writes-none}
use Rattle.sweep_reports.proofs.plan.push_writes.Goals as goal

pub loop-writes-init : goal.loop-writes-init
loop-writes-init g c = record {
  counted = ap length c.new-all.ensures.items;
  so_far = λ card. writes-none _ _ _ _ c.new-all.ensures.items;
}

pub loop-writes-preserved : goal.loop-writes-preserved
loop-writes-preserved g c = record {
  counted = grind (arith, common_steps, c.in_ok-push.ensures.items, c.loop-writes.invariant.counted);
  so_far = λ card. writes-next _ _ _ _ _ _ _ _ _ _ _ (c.loop-writes.invariant.so_far card)
      (write-put _ _ _ _ _ _ _ _ _ _ c.words-memory.ensures c.words-memory.ensures c.words.ensures
      ((rw c.in-Some.is at c.in_ok-made.ensures.made) card) c.of-kind.ensures
      ((rw c.in-Some.is at c.in_ok-made.ensures.text) card))
      c.in_ok-push.ensures.items;
}

pub returns-then-is_same : goal.returns-then-is_same
returns-then-is_same g c = λ card. writes-end _ _ _ _ _ _ _ _ _ (c.loop-writes.invariant.so_far card)
    c.loop-writes.invariant.counted
    (inl (
      ((rw c.in_default.is at c.in_ok-made.ensures.unmade) card),
      sym c.words-memory.ensures ∙ c.is_same.ensures.0 c.if-is_same.true,
    ))
    (rw c.in_default.is at c.in_ok-made.ensures.same)

pub returns : goal.returns
returns g c = λ card.
    let full : c.loop-writes.writes ≡ 2 ^ 32 - 1 =
    omega (arith, c.loop-writes-test.false, c.loop-writes.auto.writes-end) in
    writes-end _ _ _ _ _ _ _ _ _ (c.loop-writes.invariant.so_far card) c.loop-writes.invariant.counted (inr full) refl
