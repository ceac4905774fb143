use Rattle.sector_moves.specs.laws.Stepping.{none_begun}
use Rattle.sector_moves.specs.laws.Tracing.{blank_taken}
use Rattle.sector_moves.proofs.progress.find_steps.Goals as goal

pub returns-then-turn-eq1-clause-spare : goal.returns-then-turn-eq1-clause-spare
returns-then-turn-eq1-clause-spare g c =
    let fit = g.met.F.Flash.sectors_fit in
    none_begun g.F.Flash.PAGES g.F.Flash.SLOTS g.F.Flash.SECTORS g.F.Flash.sector_start fit.0 fit.1 fit.2
    g.met.F.Flash.pages_fit.0 (g.F.Flash.state c.args.flash.now).words c.args.turn

pub returns-then-erased-SECTORS-clause-spare : goal.returns-then-erased-SECTORS-clause-spare
returns-then-erased-SECTORS-clause-spare g c =
    let fit = g.met.F.Flash.sectors_fit in
    blank_taken g.F.Flash.PAGES g.F.Flash.SLOTS g.F.Flash.SECTORS g.F.Flash.sector_start
    (g.F.Flash.state c.args.flash.now).words c.args.turn g.met.F.Flash.pages_fit.0 fit.0 fit.1 fit.2
    c.in_ok-erased.erased c.in_ok-erased.ensures.most (λ e. absurd (c.if-turn-eq1.false e))
    c.in_ok-erased.ensures.blank
