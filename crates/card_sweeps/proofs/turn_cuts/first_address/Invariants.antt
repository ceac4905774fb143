use Rattle.std.proofs.Common.{◌<◌, ℕ}
use Rattle.command_base.specs.Finding.{HasCard}
use Rattle.card_sweeps.specs.TurnCuts.{swept_by}
use Rattle.card_sweeps.proofs.Addresses.{ShowsWord}
use Rattle.card_sweeps.proofs.turn_cuts.first_address.Given as goal

abbrev pub invariant-loop-i : goal.invariant-loop-i
invariant-loop-i g l = record {
  unseen : HasCard (g.P.Board.Board.facts l.runs.board.now).words → (bit : ℕ) → bit < l.i
      → ShowsWord (swept_by g.P.Board.Board.facts l.runs) l.write l.words l.before l.changed bit;
}
