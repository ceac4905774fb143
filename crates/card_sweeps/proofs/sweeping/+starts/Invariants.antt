use Rattle.std.proofs.Common.{◌*◌, ◌+◌}
use Rattle.command_base.specs.Finding.{HasCard}
use Rattle.card_sweeps.specs.PlanParts.{AllBehind, IsGivenBy, words_left}
use Rattle.card_sweeps.specs.Tallies.{findings, Adds, CountsRuns}
use Rattle.card_sweeps.specs.SweptRuns.{AreOfMask, AreOfWrites, InTurn}
use Rattle.card_sweeps.specs.TurnCuts.{swept_by}
use Rattle.card_sweeps.proofs.sweeping.+starts.Given as goal

abbrev pub decreases-cut_starts : goal.decreases-cut_starts
decreases-cut_starts g l = 4 * l.after.now.depth

abbrev pub decreases-sweep_turn : goal.decreases-sweep_turn
decreases-sweep_turn g l = 4 * l.after.now.depth + 3

abbrev pub decreases-sweep_write : goal.decreases-sweep_write
decreases-sweep_write g l = 4 * l.after.now.depth + 2

abbrev pub decreases-sweep_mask : goal.decreases-sweep_mask
decreases-sweep_mask g l = 4 * l.after.now.depth + 1

abbrev pub invariant-sweep_turn-loop-writes : goal.invariant-sweep_turn-loop-writes
invariant-sweep_turn-loop-writes g l = record {
  so_far : HasCard (g.P.Board.Board.facts l.runs.board.now).words
      → Adds (IsGivenBy g.P.Board.Board.facts l.runs l.after) (findings l.fn.sweep.seen.items)
      (findings l.sweep.seen.items);
  counted : HasCard (g.P.Board.Board.facts l.runs.board.now).words
      → CountsRuns (AreOfWrites g.P.Board.Board.facts g.P.Board.Sweepable.torn
      (AllBehind g.P.Board.Board.facts g.P.Board.Sweepable.torn l.after)
      (swept_by g.P.Board.Board.facts l.runs) l.first l.writes
      (words_left g.P.Board.Board.facts l.first l.last)) l.fn.sweep.seen.items l.sweep.seen.items;
}

abbrev pub invariant-sweep_write-loop-i : goal.invariant-sweep_write-loop-i
invariant-sweep_write-loop-i g l = record {
  so_far : HasCard (g.P.Board.Board.facts l.runs.board.now).words
      → Adds (IsGivenBy g.P.Board.Board.facts l.runs l.after) (findings l.fn.sweep.seen.items)
      (findings l.sweep.seen.items);
  counted : HasCard (g.P.Board.Board.facts l.runs.board.now).words
      → CountsRuns (InTurn (AreOfMask g.P.Board.Board.facts
      (AllBehind g.P.Board.Board.facts g.P.Board.Sweepable.torn l.after)
      (swept_by g.P.Board.Board.facts l.runs) l.write l.before l.made) l.i)
      l.fn.sweep.seen.items l.sweep.seen.items;
}
