use Rattle.std.proofs.Common.{◌≡◌, ◌∙◌, ap, false, sym, true, true≢false}
use Rattle.std.proofs.lemmas.Result.{IfErr-weaker, IfOk-weaker}
use Rattle.bench_turns.specs.declared.turn_result.TurnResult.TheVariants as turned
use Rattle.card_sweeps.specs.Sweeps.{off_with}
use Rattle.card_sweeps.proofs.OtherMasks.{unmade-by}
use Rattle.card_sweeps.proofs.SweepLemmas.{cuts-turn, spares-turn}
use Rattle.card_sweeps.proofs.turn_cuts.turn_cut.Goals as goal
use Rattle.card_sweeps.proofs.turn_cuts.turn_cut.Goals.{in-Dark, in_default}

pub returns-clause-unmade : goal.returns-clause-unmade
returns-clause-unmade g c =
    let lit : c.match-matches.matches ≡ false → c.turn_well-turned.result ≡ turned.Dark → ⊥ =
    elim c.match-matches.branch [
      | in-Dark w ↦ λ is e. true≢false (sym w.matches-is ∙ is)
      | in_default w ↦ λ is e. w.in_default.not-Dark e
    ] in
    IfErr-weaker c.cut_board.result _ _
    (λ whole left card. unmade-by _ _ _ (spares-turn _ _ _ _ _ _ _ _ _ _
    (g.met.P.Board.Faultless.faultless c.args.runs.now.board.now).faults
    (g.met.P.Board.Faultless.faultless c.args.runs.now.board.now).due
    (c.new-bench.ensures ∙ ap off_with c.in_ok-copy.ensures) (ap g.P.Board.Board.facts left.0 ∙ c.into_board.ensures)
    lit left.1 card _ _ _ _ c.in_ok-played.ensures c.arm_well.ensures.good c.arm_well.ensures.armed
    c.turn_well-turned.ensures).0)
    c.cut_board.ensures.whole

pub returns-clause-uncut : goal.returns-clause-uncut
returns-clause-uncut g c =
    let lit : c.match-matches.matches ≡ false → c.turn_well-turned.result ≡ turned.Dark → ⊥ =
    elim c.match-matches.branch [
      | in-Dark w ↦ λ is e. true≢false (sym w.matches-is ∙ is)
      | in_default w ↦ λ is e. w.in_default.not-Dark e
    ] in
    IfErr-weaker c.cut_board.result _ _
    (λ whole left card. spares-turn _ _ _ _ _ _ _ _ _ _
    (g.met.P.Board.Faultless.faultless c.args.runs.now.board.now).faults
    (g.met.P.Board.Faultless.faultless c.args.runs.now.board.now).due
    (c.new-bench.ensures ∙ ap off_with c.in_ok-copy.ensures) (ap g.P.Board.Board.facts left.0 ∙ c.into_board.ensures)
    lit left.1 card _ _ _ _ c.in_ok-played.ensures c.arm_well.ensures.good c.arm_well.ensures.armed
    c.turn_well-turned.ensures)
    c.cut_board.ensures.whole

pub returns-clause-cut : goal.returns-clause-cut
returns-clause-cut g c =
    let lost : c.match-matches.matches ≡ true → c.turn_well-turned.result ≡ turned.Dark = elim c.match-matches.branch [
      | in-Dark w ↦ λ is. w.in-Dark.is
      | in_default w ↦ λ is. absurd (true≢false (sym is ∙ w.matches-is))
    ] in
    IfOk-weaker c.cut_board.result _ _
    (λ left fell card. cuts-turn _ _ _ _ _ _ _ _ _
    (g.met.P.Board.Faultless.faultless c.args.runs.now.board.now).faults
    (g.met.P.Board.Faultless.faultless c.args.runs.now.board.now).due
    (c.new-bench.ensures ∙ ap off_with c.in_ok-copy.ensures) (ap g.P.Board.Board.facts fell.0 ∙ c.into_board.ensures)
    (lost fell.1) fell.2 card _ _ _ _ c.in_ok-played.ensures c.arm_well.ensures.good
    c.arm_well.ensures.armed c.turn_well-turned.ensures)
    c.cut_board.ensures.cut
