use Rattle.std.proofs.Common.{sym, true≢false, ◌∙◌}
use Rattle.flash_moves.specs.laws.Pacing.{fresh_is}
use Rattle.sector_moves.proofs.finding.find_pages.Goals as goal

pub returns-then-place-clause-found : goal.returns-then-place-clause-found
returns-then-place-clause-found g c = λ fresh.
    let is = fresh_is g.F.Flash.PAGES g.F.Flash.SLOTS g.F.Flash.SECTORS c.args.place.now fresh in
    absurd (true≢false (sym c.if-place.true ∙ is.0))

pub returns-clause-found : goal.returns-clause-found
returns-clause-found g c = λ fresh.
    let is = fresh_is g.F.Flash.PAGES g.F.Flash.SLOTS g.F.Flash.SECTORS c.args.place.now fresh in
    c.in_ok-find_place.ensures.found is.1
