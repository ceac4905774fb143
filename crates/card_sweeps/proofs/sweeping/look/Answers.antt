use Rattle.std.proofs.Common.{sym, ◌∙◌, ap, subst, rules}
use Rattle.card_sweeps.specs.Sweeps.{EndsIn, off_with}
use Rattle.card_sweeps.proofs.TallyLemmas.{adds-none, adds-weaker}
use Rattle.card_sweeps.proofs.SweepLemmas.{ends-in}
use Rattle.card_sweeps.proofs.CompleteSweeps.{counts-one}
use Rattle.card_sweeps.proofs.FirstRuns.{full-differs, full-none}
use Rattle.card_sweeps.proofs.sweeping.look.Goals as goal

pub returns : goal.returns
returns g c = record {
  given = λ card. adds-weaker _ _ _ _
      (λ f same. subst (EndsIn (g.P.Board.Board.facts c.args.board.now) c.args.probe.now) (sym same)
      (ends-in (g.P.Board.Board.facts c.args.board.now) c.args.probe.now _ _
      _ _ _ _ _ (g.met.P.Board.Faultless.faultless c.args.board.now).faults
      (g.met.P.Board.Faultless.faultless c.args.board.now).due (c.new-bench.ensures ∙ ap off_with c.in_ok-copy.ensures)
      c.turn_well.ensures c.free_space_of-free.ensures c.in_ok-trace.ensures card)) c.count.ensures.adds;
  complete = λ card.
      let end = ends-in (g.P.Board.Board.facts c.args.board.now) c.args.probe.now _ _ _ _ _ _ _
      (g.met.P.Board.Faultless.faultless c.args.board.now).faults
      (g.met.P.Board.Faultless.faultless c.args.board.now).due
      (c.new-bench.ensures ∙ ap off_with c.in_ok-copy.ensures) c.turn_well.ensures c.free_space_of-free.ensures
      c.in_ok-trace.ensures card in
      counts-one _ _ _ _ _ end c.in_ok-count.ensures.counts;
  early = search rules;
}

pub returns-in_err-count : goal.returns-in_err-count
returns-in_err-count g c = record {
  given = λ card. adds-weaker _ _ _ _
      (λ f same. subst (EndsIn (g.P.Board.Board.facts c.args.board.now) c.args.probe.now) (sym same)
      (ends-in (g.P.Board.Board.facts c.args.board.now) c.args.probe.now _ _
      _ _ _ _ _ (g.met.P.Board.Faultless.faultless c.args.board.now).faults
      (g.met.P.Board.Faultless.faultless c.args.board.now).due (c.new-bench.ensures ∙ ap off_with c.in_ok-copy.ensures)
      c.turn_well.ensures c.free_space_of-free.ensures c.in_ok-trace.ensures card)) c.count.ensures.adds;
  complete = search rules;
  early = search rules;
}

pub returns-then-is_full : goal.returns-then-is_full
returns-then-is_full g c = record {
  given = λ card. adds-none _ _;
  complete = search rules;
  early = record {
    full = λ _. (c.is_full.ensures.full.0 c.if-is_full.true, λ card. full-none _);
    differs = λ is. absurd (full-differs is);
  };
}
