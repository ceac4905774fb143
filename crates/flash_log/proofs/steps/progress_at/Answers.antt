use Rattle.std.proofs.Common.{ℕ, subst, arith}
use Rattle.flash_area.specs.Spares.{FindsFurthest, KeepsSteps}
use Rattle.flash_device.specs.FlashLogs.{words_of}
use Rattle.flash_moves.specs.laws.Sparing.{spare_none}
use Rattle.flash_log.proofs.steps.progress_at.Goals as goal

pub returns-then-SLOTS-next-clause-spare : goal.returns-then-SLOTS-next-clause-spare
returns-then-SLOTS-next-clause-spare g c =
    let fit = g.met.F.Flash.sectors_fit in
    let m = (g.F.Flash.state c.args.flash.now).words in
    spare_none g.F.Flash.PAGES g.F.Flash.SLOTS g.F.Flash.SECTORS g.F.Flash.sector_start g.met.F.Flash.sectors_rise fit.0
    fit.1 fit.2 fit.4 g.met.F.Flash.pages_fit.0 m (words_of g.F.Flash.PAGES g.F.Flash.SLOTS m) c.args.turn

pub returns-clause-keeps : goal.returns-clause-keeps
returns-clause-keeps g c =
    let m = (g.F.Flash.state c.args.flash.now).words in
    let found = c.in_ok-progress.progress in
    subst (λ (n : ℕ). KeepsSteps g.F.Flash.PAGES g.F.Flash.SLOTS g.F.Flash.SECTORS g.F.Flash.sector_start m c.args.turn
    c.args.next n found.erased found.copied found.behind) c.extra.ensures c.in_ok-progress.ensures.keeps

pub returns-then-SLOTS-next-clause-furthest : goal.returns-then-SLOTS-next-clause-furthest
returns-then-SLOTS-next-clause-furthest g c = λ due.
    let far = c.if-SLOTS-next.true in
    let lead = c.lead.ensures in
    absurd (omega (arith, far, lead, due))

pub returns-clause-furthest : goal.returns-clause-furthest
returns-clause-furthest g c = λ due.
    let m = (g.F.Flash.state c.args.flash.now).words in
    let found = c.in_ok-progress.progress in
    subst (λ (n : ℕ). FindsFurthest g.F.Flash.PAGES g.F.Flash.SLOTS g.F.Flash.SECTORS g.F.Flash.sector_start m
    c.args.turn c.args.next n found.erased found.copied found.older) c.extra.ensures c.in_ok-progress.ensures.furthest
