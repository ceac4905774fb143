use Rattle.std.proofs.Common.{Some, ap, refl, subst}
use Rattle.card_model.specs.declared.space.FreeSpace.{FreeSpace}
use Rattle.bench_turns.specs.BenchStates.{BenchState, TellsFree}
use Rattle.card_turns.proofs.playing.Bench.free.Goals as goal

pub returns-in-On : goal.returns-in-On
returns-in-On g c =
    let is = rw c.in-On.is at c.self.view_is in
    subst (λ (b : BenchState). TellsFree b (Some c.free.result)) is
    (refl, λ works. ap (λ (f : FreeSpace). Some f) (c.free.ensures works))
