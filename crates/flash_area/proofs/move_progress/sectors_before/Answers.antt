use Rattle.std.proofs.Common.{◌<◌, ◌+◌, arith}
use Rattle.flash_area.specs.laws.Progressing.{sectors_most}
use Rattle.flash_area.proofs.move_progress.sectors_before.Goals as goal

pub returns-then-sector_at-end-clause-all : goal.returns-then-sector_at-end-clause-all
returns-then-sector_at-end-clause-all g c = λ n most within.
    let start = g.F.Flash.sector_start in
    let is = c.sector_at.ensures in
    let past : c.args.end < start (c.args.first + c.loop-n.n + 1) = omega (arith, is, c.if-sector_at-end.true) in
    sectors_most start g.met.F.Flash.sectors_rise c.args.first c.loop-n.n c.args.end past n within
