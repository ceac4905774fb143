use Rattle.std.proofs.Common.{◌+◌, ◌∙◌, refl, arith}
use Rattle.flash_device.specs.declared.flash.TheConstants.{BLANK}
use Rattle.flash_device.specs.laws.Rising.{sectors_filled, sectors_elsewhere}
use Rattle.flash_device.proofs.erasing.erase_sectors.Goals as goal

pub loop-sector-preserved : goal.loop-sector-preserved
loop-sector-preserved g c =
    let start = g.F.Flash.sector_start in
    let rise = g.met.F.Flash.sectors_rise in
    let m = (g.F.Flash.state c.args.flash.now).words in
    let mid = (g.F.Flash.state c.loop-sector.flash).words in
    let after = (g.F.Flash.state c.erase.new.self).words in
    let was = c.loop-sector.invariant in
    let s = c.loop-sector.sector in
    let lit = c.in_ok-erase.ensures.light.ok refl in
    let least = was.least in
    let work = c.erase.ensures.work in
    let before = was.work in
    let one = c.erase.ensures.erases in
    let others = was.erases in
    record {
      lit = lit.lit;
      steady = record { lit = lit.lit; due = lit.due ∙ was.steady.due; faults = lit.faults ∙ was.steady.faults };
      least = omega (arith, least);
      work = omega (arith, work, before, least);
      erases = omega (arith, one, others, least);
      done = sectors_filled start rise mid after c.args.from s BLANK least was.done c.erase.ensures.elsewhere
          c.in_ok-erase.ensures.done;
      elsewhere = sectors_elsewhere start rise m mid after c.args.from s (s + 1) least (omega arith) was.elsewhere
          c.erase.ensures.elsewhere;
    }

pub returns-in_err-erase-clause-elsewhere : goal.returns-in_err-erase-clause-elsewhere
returns-in_err-erase-clause-elsewhere g c =
    let start = g.F.Flash.sector_start in
    let rise = g.met.F.Flash.sectors_rise in
    let m = (g.F.Flash.state c.args.flash.now).words in
    let mid = (g.F.Flash.state c.loop-sector.flash).words in
    let after = (g.F.Flash.state c.erase.new.self).words in
    let was = c.loop-sector.invariant in
    let lt = c.loop-sector-test.true in
    sectors_elsewhere start rise m mid after c.args.from c.loop-sector.sector c.args.end was.least (omega (arith, lt))
    was.elsewhere c.erase.ensures.elsewhere
