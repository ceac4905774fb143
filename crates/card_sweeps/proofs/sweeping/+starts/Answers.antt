use Rattle.std.proofs.Common.{◌≡◌, ◌<◌, ◌≤◌, ◌+◌, ◌-◌, ◌^◌, List, arith, inl, inr, refl, rules, subst, sym, ℕ}
use Rattle.std.proofs.lemmas.Result.{IfOk-weaker}
use Rattle.card_sweeps.specs.declared.tally.SweepEnd.TheVariants.{Differs}
use Rattle.card_sweeps.specs.Masks.{mask_count_of}
use Rattle.card_sweeps.specs.PlanParts.{AllBehind, FirstBehind}
use Rattle.card_sweeps.specs.Sweeps.{start_on}
use Rattle.card_sweeps.specs.SweptRuns.{AreAllBehind, AreFirstBehind, AreFirstOfTurn, AreOfTurn, AreOfWrites}
use Rattle.card_sweeps.specs.Tallies.{CountsRuns}
use Rattle.card_sweeps.specs.TurnCuts.{LeavesMasked, swept_by}
use Rattle.command_base.specs.Finding.{HasCard}
use Rattle.card_sweeps.proofs.CompleteSweeps.{counts-behind-none, counts-mask, counts-swept, counts-whole, ends-first}
use Rattle.card_sweeps.proofs.CompleteSweeps.{turn-begun, turn-end, turn-next, turn-none, writes-begun, writes-end}
use Rattle.card_sweeps.proofs.CompleteSweeps.{writes-next, writes-none}
use Rattle.card_sweeps.proofs.FirstRuns.{differs-passed, early-passed, early-weaker, first-behind, first-behind-none}
use Rattle.card_sweeps.proofs.FirstRuns.{first-mask, first-whole-none, first-write, other-mask, other-write}
use Rattle.card_sweeps.proofs.KnownCuts.{known-leaves, other-leaves}
use Rattle.card_sweeps.proofs.SweepLemmas.{behind_more, behind_none, behind_whole, given-by-run}
use Rattle.card_sweeps.proofs.TallyLemmas.{adds-none, adds-on, adds-weaker}
use Rattle.card_sweeps.proofs.sweeping.+starts.Goals as goal

pub cut_starts-returns-then-after-eq0 : goal.cut_starts-returns-then-after-eq0
cut_starts-returns-then-after-eq0 g t c =
    let facts = g.P.Board.Board.facts in
    let torn = g.P.Board.Sweepable.torn in
    record {
      given = λ card. adds-weaker _ _ _ _ (λ given end. behind_none _ _ _ _ c.if-after-eq0.true end)
          (c.look.ensures.given card);
      complete = IfOk-weaker c.look.result _ _
          (λ _ complete card. counts-behind-none facts torn _ _ _ _ _ c.if-after-eq0.true (complete card))
          c.look.ensures.complete;
      early = early-weaker c.look.result _ _ _ _ _ _ _ (λ card. card)
          (λ end card first. first-behind-none facts torn end _ _ _ _ _ first) c.look.ensures.early;
    }

pub cut_starts-returns-in_err-writes : goal.cut_starts-returns-in_err-writes
cut_starts-returns-in_err-writes g t c =
    let facts = g.P.Board.Board.facts in
    let torn = g.P.Board.Sweepable.torn in
    let depth = c.args.after.now.depth in
    let probe = c.args.after.now.probe.now in
    let board = facts c.args.board.now in
    let more : 0 < c.args.after.now.depth = omega arith in
    record {
      given = λ card. adds-weaker _ _ _ _ (λ given run. behind_more _ _ _ _ more run)
          (c.sweep_turn.ensures.given card);
      complete = search rules;
      early = early-passed c.from_residual.result _ _ _ _ _ _ _ _ c.from_residual.ensures.1 (λ card. card)
          (λ end card first. first-behind facts torn end depth probe board c.args.sweep.now.seen.items
          c.sweep_turn.new.sweep.seen.items more
          (subst (λ (m : List ℕ). CountsRuns (AreFirstOfTurn facts torn end (AreAllBehind facts torn (depth - 1) probe)
          (AreFirstBehind facts torn end (depth - 1) probe) (start_on board) m) c.args.sweep.now.seen.items
          c.sweep_turn.new.sweep.seen.items) c.words.ensures first))
          c.in_err-writes.ensures.early;
    }

pub cut_starts-returns-then-writes-eq0 : goal.cut_starts-returns-then-writes-eq0
cut_starts-returns-then-writes-eq0 g t c =
    let facts = g.P.Board.Board.facts in
    let torn = g.P.Board.Sweepable.torn in
    let board = facts c.args.board.now in
    let more : 0 < c.args.after.now.depth = omega arith in
    let none : HasCard board.words → CountsRuns (AreOfTurn facts torn
    (AreAllBehind facts torn (c.args.after.now.depth - 1) c.args.after.now.probe.now) (start_on board) board.words 0)
    c.args.sweep.now.seen.items c.sweep_turn.new.sweep.seen.items = λ card. subst
    (λ (n : ℕ). CountsRuns (AreOfTurn facts torn
    (AreAllBehind facts torn (c.args.after.now.depth - 1) c.args.after.now.probe.now) (start_on board) board.words
    n) c.args.sweep.now.seen.items c.sweep_turn.new.sweep.seen.items)
    c.if-writes-eq0.true (rw c.words.ensures at (c.in_ok-writes.ensures.complete card)) in
    record {
      given = λ card.
          let whole = ends-first facts torn _ _ _ _ _ _ c.if-writes-eq0.true (c.in_ok-writes.ensures.complete card) in
          adds-on _ _ _ _ (adds-weaker _ _ _ _ (λ given run. behind_more _ _ _ _ more run)
          (c.sweep_turn.ensures.given card))
          (adds-weaker _ _ _ _ (λ given end. behind_whole _ _ _ _ _ whole.1 end)
          (c.look-then-writes-eq0.ensures.given card));
      complete = IfOk-weaker c.look-then-writes-eq0.result _ _
          (λ _ complete card. counts-whole facts torn _ _ _ _ _ _ more (none card) (complete card))
          c.look-then-writes-eq0.ensures.complete;
      early = early-weaker c.look-then-writes-eq0.result _ _ _ _ _ _ _ (λ card. card)
          (λ end card first. first-whole-none facts torn end _ _ _ _ _ _ _ (none card) first)
          c.look-then-writes-eq0.ensures.early;
    }

pub cut_starts-returns : goal.cut_starts-returns
cut_starts-returns g t c =
    let facts = g.P.Board.Board.facts in
    let torn = g.P.Board.Sweepable.torn in
    let more : 0 < c.args.after.now.depth = omega arith in
    let some : 1 ≤ c.in_ok-writes.writes = omega arith in
    record {
      given = λ card. adds-weaker _ _ _ _ (λ given run. behind_more _ _ _ _ more run)
          (c.sweep_turn.ensures.given card);
      complete = λ card. counts-swept facts torn _ _ _ _ _ _ more some
          (rw c.words.ensures at (c.in_ok-writes.ensures.complete card));
      early = search rules;
    }

pub sweep_turn-loop-writes-init : goal.sweep_turn-loop-writes-init
sweep_turn-loop-writes-init g t c = record {
  so_far = λ card. adds-none _ _;
  counted = λ card. writes-none g.P.Board.Board.facts g.P.Board.Sweepable.torn _ _ _ _;
}

pub sweep_turn-loop-writes-preserved : goal.sweep_turn-loop-writes-preserved
sweep_turn-loop-writes-preserved g t c =
    let made = rw c.in-Some.is at c.in_ok-made.ensures.made in
    let words = rw c.in-Some.is at c.in_ok-made.ensures.words in
    let facts = g.P.Board.Board.facts in
    let torn = g.P.Board.Sweepable.torn in
    let behind = AllBehind facts torn c.args.after.now in
    let swept = swept_by facts c.args.runs.now in
    record {
      so_far = λ card. adds-on _ _ _ _ (c.loop-writes.invariant.so_far card) (c.sweep_write.ensures.given card);
      counted = λ card.
          let counted = subst (λ (m : List ℕ). CountsRuns (AreOfWrites facts torn behind swept c.args.first.now
          c.loop-writes.writes m) c.args.sweep.now.seen.items c.loop-writes.sweep.seen.items)
          (sym c.memory_left-before.ensures) (c.loop-writes.invariant.counted card) in
          writes-next facts torn behind swept c.args.first.now c.loop-writes.writes _ c.in-Some.made _ _ _ (made card)
          words counted (c.in_ok-sweep_write.ensures.complete card);
    }

pub sweep_turn-returns-in_err-made : goal.sweep_turn-returns-in_err-made
sweep_turn-returns-in_err-made g t c =
    let facts = g.P.Board.Board.facts in
    let torn = g.P.Board.Sweepable.torn in
    let behind = AllBehind facts torn c.args.after.now in
    let first = FirstBehind facts torn Differs c.args.after.now in
    let swept = swept_by facts c.args.runs.now in
    record {
      given = c.loop-writes.invariant.so_far;
      complete = search rules;
      early = differs-passed c.from_residual.result _ _ _ _ _ _ c.from_residual.ensures.1
          c.in_err-made.ensures.differs
          (λ card misses.
          let counted = subst (λ (m : List ℕ). CountsRuns (AreOfWrites facts torn behind swept c.args.first.now
          c.loop-writes.writes m) c.args.sweep.now.seen.items c.loop-writes.sweep.seen.items)
          (sym c.memory_left-before.ensures) (c.loop-writes.invariant.counted card) in
          writes-begun facts torn behind swept c.args.first.now Differs first c.loop-writes.writes _ _ _ _ counted
          (other-write facts torn Differs behind first swept (c.loop-writes.writes + 1) _ _ refl misses));
    }

pub sweep_turn-returns-in_default : goal.sweep_turn-returns-in_default
sweep_turn-returns-in_default g t c =
    let unmade = rw c.in_default.is at c.in_ok-made.ensures.unmade in
    let facts = g.P.Board.Board.facts in
    let torn = g.P.Board.Sweepable.torn in
    let behind = AllBehind facts torn c.args.after.now in
    let swept = swept_by facts c.args.runs.now in
    record {
      given = c.loop-writes.invariant.so_far;
      complete = λ card.
          let counted = subst (λ (m : List ℕ). CountsRuns (AreOfWrites facts torn behind swept c.args.first.now
          c.loop-writes.writes m) c.args.sweep.now.seen.items c.loop-writes.sweep.seen.items)
          (sym c.memory_left-before.ensures) (c.loop-writes.invariant.counted card) in
          writes-end facts torn behind swept c.args.first.now c.loop-writes.writes _ _ _ (inl (unmade card)) counted;
      early = search rules;
    }

pub sweep_turn-returns-in_err-sweep_write : goal.sweep_turn-returns-in_err-sweep_write
sweep_turn-returns-in_err-sweep_write g t c =
    let made = rw c.in-Some.is at c.in_ok-made.ensures.made in
    let words = rw c.in-Some.is at c.in_ok-made.ensures.words in
    let facts = g.P.Board.Board.facts in
    let torn = g.P.Board.Sweepable.torn in
    let after = c.args.after.now in
    let behind = AllBehind facts torn after in
    let swept = swept_by facts c.args.runs.now in
    record {
      given = λ card. adds-on _ _ _ _ (c.loop-writes.invariant.so_far card) (c.sweep_write.ensures.given card);
      complete = search rules;
      early = early-passed c.from_residual-in_err-sweep_write.result _ _ _ _ _ _ _ _
          c.from_residual-in_err-sweep_write.ensures.1 (λ card. card)
          (λ end card first.
          let counted = subst (λ (m : List ℕ). CountsRuns (AreOfWrites facts torn behind swept c.args.first.now
          c.loop-writes.writes m) c.args.sweep.now.seen.items c.loop-writes.sweep.seen.items)
          (sym c.memory_left-before.ensures) (c.loop-writes.invariant.counted card) in
          writes-begun facts torn behind swept c.args.first.now end (FirstBehind facts torn end after)
          c.loop-writes.writes _ _ _ _ counted
          (first-write facts torn end behind (FirstBehind facts torn end after) swept (c.loop-writes.writes + 1) _
          c.in-Some.made _ _ (made card) words first))
          c.in_err-sweep_write.ensures.early;
    }

pub sweep_turn-returns : goal.sweep_turn-returns
sweep_turn-returns g t c =
    let facts = g.P.Board.Board.facts in
    let torn = g.P.Board.Sweepable.torn in
    let behind = AllBehind facts torn c.args.after.now in
    let swept = swept_by facts c.args.runs.now in
    record {
      given = c.loop-writes.invariant.so_far;
      complete = λ card.
          let full : c.loop-writes.writes ≡ 2 ^ 32 - 1 =
          omega (arith, c.loop-writes-test.false, c.loop-writes.auto.writes-end) in
          subst (λ (n : ℕ). CountsRuns (AreOfTurn facts torn behind swept c.args.first.now n)
          c.args.sweep.now.seen.items c.loop-writes.sweep.seen.items) full
          (writes-end facts torn behind swept c.args.first.now c.loop-writes.writes _ _ _ (inr full)
          (c.loop-writes.invariant.counted card));
      early = search rules;
    }

pub sweep_write-loop-i-init : goal.sweep_write-loop-i-init
sweep_write-loop-i-init g t c = record { so_far = λ card. adds-none _ _; counted = λ card. turn-none _ _ }

pub sweep_write-loop-i-preserved : goal.sweep_write-loop-i-preserved
sweep_write-loop-i-preserved g t c = record {
  so_far = λ card. adds-on _ _ _ _ (c.loop-i.invariant.so_far card) (c.sweep_mask.ensures.given card);
  counted = λ card. turn-next _ c.loop-i.i _ _ _ (c.loop-i.invariant.counted card)
      (c.in_ok-sweep_mask.ensures.complete card);
}

pub sweep_write-returns-in_err-sweep_mask : goal.sweep_write-returns-in_err-sweep_mask
sweep_write-returns-in_err-sweep_mask g t c =
    let few : c.loop-i.i < mask_count_of c.args.made.now.words =
    omega (arith, c.loop-i-test.true, c.mask_count-i-end.ensures) in
    record {
      given = λ card. adds-on _ _ _ _ (c.loop-i.invariant.so_far card) (c.sweep_mask.ensures.given card);
      complete = search rules;
      early = early-passed c.from_residual.result _ _ _ _ _ _ _ _ c.from_residual.ensures.1 (λ card. card)
          (λ end card first. turn-begun _ _ c.loop-i.i _ _ _ _ few (c.loop-i.invariant.counted card) first)
          c.in_err-sweep_mask.ensures.early;
    }

pub sweep_write-returns : goal.sweep_write-returns
sweep_write-returns g t c = record {
  given = c.loop-i.invariant.so_far;
  complete = λ card.
      let end : c.loop-i.i ≡ mask_count_of c.args.made.now.words =
      omega (arith, c.loop-i-test.false, c.loop-i.auto.i-end, c.mask_count-i-end.ensures) in
      turn-end _ _ _ _ _ end (c.loop-i.invariant.counted card);
  early = search rules;
}

pub sweep_mask-returns-in_err-left : goal.sweep_mask-returns-in_err-left
sweep_mask-returns-in_err-left g t c =
    let facts = g.P.Board.Board.facts in
    let torn = g.P.Board.Sweepable.torn in
    let after = c.args.after.now in
    record {
      given = λ card. adds-none _ _;
      complete = search rules;
      early = differs-passed c.from_residual.result _ _ _ _ _ _ c.from_residual.ensures.1
          c.in_err-left.ensures.differs
          (λ card misses. other-mask facts Differs (FirstBehind facts torn Differs after)
          (swept_by facts c.args.runs.now) c.args.write c.args.before.now c.args.made.now c.args.i _ refl misses);
    }

pub sweep_mask-returns-in-Some : goal.sweep_mask-returns-in-Some
sweep_mask-returns-in-Some g t c =
    let facts = g.P.Board.Board.facts in
    let torn = g.P.Board.Sweepable.torn in
    let after = c.args.after.now in
    let swept = swept_by facts c.args.runs.now in
    let left = c.in-Some.left.now in
    let leaves : HasCard (facts c.args.runs.now.board.now).words
    → LeavesMasked facts swept c.args.write c.args.before.now c.args.made.now c.args.i left =
    λ card. known-leaves facts torn swept c.args.write c.args.before.now c.args.made.now c.args.i left
    (c.requires.made card) c.in-Some.ensures.known in
    record {
      given = λ card. adds-weaker _ _ _ _ (λ given rest. given-by-run _ _ _ _ _ _ _ (leaves card).cut rest)
          (c.cut_starts.ensures.given (leaves card).cut.has_card);
      complete = IfOk-weaker c.cut_starts.result _ _
          (λ _ complete card. counts-mask facts (AllBehind facts torn after) swept c.args.write c.args.before.now
          c.args.made.now c.args.i left _ _ (leaves card) (complete (leaves card).cut.has_card))
          c.cut_starts.ensures.complete;
      early = early-weaker c.cut_starts.result _ _ _ _ _ _ _ (λ card. (leaves card).cut.has_card)
          (λ end card first. first-mask facts end (FirstBehind facts torn end after) swept c.args.write
          c.args.before.now c.args.made.now c.args.i left _ _ (leaves card) first)
          c.cut_starts.ensures.early;
    }

pub sweep_mask-returns : goal.sweep_mask-returns
sweep_mask-returns g t c =
    let facts = g.P.Board.Board.facts in
    let torn = g.P.Board.Sweepable.torn in
    let after = c.args.after.now in
    let swept = swept_by facts c.args.runs.now in
    let left = c.in_ok-left.left in
    let cut = c.in_ok-left.ensures in
    let leaves : HasCard (facts c.args.runs.now.board.now).words
    → LeavesMasked facts swept c.args.write c.args.before.now c.args.made.now c.args.i left =
    λ card. other-leaves facts swept c.args.write c.args.before.now c.args.made.now c.args.i left
    c.in_default.ensures.other (cut.cut card) cut.masked in
    record {
      given = λ card. adds-weaker _ _ _ _ (λ given rest. given-by-run _ _ _ _ _ _ _ (leaves card).cut rest)
          (c.cut_starts-2.ensures.given (leaves card).cut.has_card);
      complete = IfOk-weaker c.cut_starts-2.result _ _
          (λ _ complete card. counts-mask facts (AllBehind facts torn after) swept c.args.write c.args.before.now
          c.args.made.now c.args.i left _ _ (leaves card) (complete (leaves card).cut.has_card))
          c.cut_starts-2.ensures.complete;
      early = early-weaker c.cut_starts-2.result _ _ _ _ _ _ _ (λ card. (leaves card).cut.has_card)
          (λ end card first. first-mask facts end (FirstBehind facts torn end after) swept c.args.write
          c.args.before.now c.args.made.now c.args.i left _ _ (leaves card) first)
          c.cut_starts-2.ensures.early;
    }
