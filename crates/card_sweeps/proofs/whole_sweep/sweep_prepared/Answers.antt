use Rattle.std.proofs.Common.{List, rules, subst, ℕ}
use Rattle.card_sweeps.specs.PlanParts.{AllBehind, FirstBehind}
use Rattle.card_sweeps.specs.SweptRuns.{AreFirstOfTurn, AreOfTurn, AreRunsFrom}
use Rattle.card_sweeps.specs.Tallies.{CountsRuns}
use Rattle.card_sweeps.specs.TurnCuts.{swept_by}
use Rattle.card_sweeps.proofs.CompleteSweeps.{counts-prepared, counts-runs}
use Rattle.card_sweeps.proofs.FirstRuns.{early-passed}
use Rattle.card_sweeps.proofs.TallyLemmas.{adds-none}
use Rattle.card_sweeps.proofs.whole_sweep.sweep_prepared.Goals as goal

pub returns : goal.returns
returns g c =
    let facts = g.P.Board.Board.facts in
    let torn = g.P.Board.Sweepable.torn in
    let after = c.args.after.now in
    let swept = swept_by facts c.args.runs.now in
    record {
      given = c.sweep_turn.ensures.given;
      complete = λ card. counts-prepared (AreRunsFrom facts torn after.depth after.probe.now swept) swept _ _ _ _
          (c.in_ok-prepared.ensures card)
          (counts-runs facts torn after.depth after.probe.now swept _ _ _ _
          (subst (λ (m : List ℕ). CountsRuns
          (AreOfTurn facts torn (AllBehind facts torn after) swept m c.in_ok-sweep_turn.field-0)
          c.args.sweep.now.seen.items c.sweep_turn.new.sweep.seen.items)
          c.words.ensures (c.in_ok-sweep_turn.ensures.complete card)));
      early = search rules;
    }

pub returns-in_err-prepared : goal.returns-in_err-prepared
returns-in_err-prepared g c = record {
  given = λ card. adds-none _ _;
  complete = search rules;
  early = search rules;
}

pub returns-in_err-sweep_turn : goal.returns-in_err-sweep_turn
returns-in_err-sweep_turn g c =
    let facts = g.P.Board.Board.facts in
    let torn = g.P.Board.Sweepable.torn in
    let after = c.args.after.now in
    let swept = swept_by facts c.args.runs.now in
    record {
      given = c.sweep_turn.ensures.given;
      complete = search rules;
      early = early-passed c.from_residual-in_err-sweep_turn.result _ _ _ _ _ _ _ _
          c.from_residual-in_err-sweep_turn.ensures.1 (λ card. card)
          (λ end card first. counts-prepared (AreFirstOfTurn facts torn end (AllBehind facts torn after)
          (FirstBehind facts torn end after) swept) swept _ _ _ _ (c.in_ok-prepared.ensures card)
          (subst (λ (m : List ℕ). CountsRuns (AreFirstOfTurn facts torn end (AllBehind facts torn after)
          (FirstBehind facts torn end after) swept m) c.args.sweep.now.seen.items c.sweep_turn.new.sweep.seen.items)
          c.words.ensures first))
          c.in_err-sweep_turn.ensures.early;
    }
