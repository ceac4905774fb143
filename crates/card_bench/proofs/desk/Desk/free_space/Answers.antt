use Rattle.std.specs.Prelude.{◌≡◌}
use Rattle.std.proofs.Common.{subst, sym}
use Rattle.card_bench.specs.DeskStates.{DeskState}
use Rattle.card_bench.specs.Performing.{free_shown}
use Rattle.bench_turns.specs.Plays.{IsGood}
use Rattle.bench_lines.specs.Printouts.{prints_free, prints_mute}
use Rattle.card_bench.proofs.FreeTold.{free-told, none-told}
use Rattle.card_bench.proofs.desk.Desk.free_space.Goals as goal

pub returns-in-Some : goal.returns-in-Some
returns-in-Some g c =
    let good = subst (λ (d : DeskState). IsGood d.desk.bench) (sym c.self.view_is) c.requires in
    subst (λ (d : DeskState). prints_free c.in-Some.free ≡ free_shown d.desk.bench) c.self.view_is
    (free-told (g.P.TurnPlayer.state c.self.inside.ends.bench) c.in-Some.free good c.in-Some.ensures)

pub returns-in-None : goal.returns-in-None
returns-in-None g c =
    subst (λ (d : DeskState). prints_mute ≡ free_shown d.desk.bench) c.self.view_is
    (none-told (g.P.TurnPlayer.state c.self.inside.ends.bench) c.in-None.ensures)
