use Rattle.std.proofs.Common.{◌∙◌, ap}
use Rattle.card_sweeps.specs.Sweeps.{off_with}
use Rattle.card_sweeps.proofs.SweepLemmas.{plays-on}
use Rattle.card_sweeps.proofs.sweeping.play_copy.Goals as goal

pub returns : goal.returns
returns g c = λ card. plays-on _ _ _ _ _ _ (g.met.P.Board.Faultless.faultless c.args.board.now).faults
    (g.met.P.Board.Faultless.faultless c.args.board.now).due (c.new-bench.ensures ∙ ap off_with c.in_ok-copy.ensures)
    c.into_board.ensures c.in_ok-trace.ensures card
