use Rattle.sector_moves.specs.laws.Stepping.{none_begun}
use Rattle.sector_moves.proofs.progress.find_copies.Goals as goal

pub returns-clause-copies : goal.returns-clause-copies
returns-clause-copies g c =
    let fit = g.met.F.Flash.sectors_fit in
    (none_begun g.F.Flash.PAGES g.F.Flash.SLOTS g.F.Flash.SECTORS g.F.Flash.sector_start fit.0 fit.1 fit.2
    g.met.F.Flash.pages_fit.0 (g.F.Flash.state c.args.flash.now).words c.args.turn).copies
