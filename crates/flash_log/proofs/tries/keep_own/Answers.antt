use Rattle.std.proofs.Common.{arith}
use Rattle.flash_moves.specs.laws.Pacing.{anew_paced}
use Rattle.flash_moves.specs.laws.Sparing.{log_anew}
use Rattle.flash_log.proofs.tries.keep_own.Goals as goal

pub returns-clause-log : goal.returns-clause-log
returns-clause-log g c = λ m log.
    let fit = g.met.F.Flash.sectors_fit in
    log_anew g.F.Flash.PAGES g.F.Flash.SLOTS g.F.Flash.SECTORS g.F.Flash.sector_start g.met.F.Flash.sectors_rise fit.0
    fit.1 fit.2 fit.4 g.met.F.Flash.pages_fit.0 m c.args.place.now log

pub returns-clause-paced : goal.returns-clause-paced
returns-clause-paced g c = λ extra pace.
    anew_paced g.F.Flash.PAGES g.F.Flash.SLOTS g.F.Flash.SECTORS extra c.args.place.now
    (let far = c.if-SLOTS-place.false in let most = c.move_steps.ensures in omega (arith, far, most)) pace
