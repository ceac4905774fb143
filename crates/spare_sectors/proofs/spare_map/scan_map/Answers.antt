use Rattle.std.proofs.Common.{◌∙◌, sym, refl, arith}
use Rattle.flash_device.specs.laws.Indexing.{find_zero, free_none}
use Rattle.spare_sectors.proofs.spare_map.scan_map.Goals as goal

pub loop-entry-init : goal.loop-entry-init
loop-entry-init g c =
    let m = (g.D.MapDevice.state c.args.device.now).map in
    record {
      words = refl;
      programs = refl;
      map = refl;
      work = refl;
      erases = refl;
      kept = refl;
      begun = refl;
      lit = c.requires.lit;
      steady = record { lit = c.requires.lit; due = refl; faults = refl };
      index = record {
        each = λ p lt. let all = g.met.D.MapDevice.map_fits c.blank.result in
            c.blank.ensures p (omega (arith, lt, all)) ∙ sym (find_zero m 0 p);
      };
      free = free_none m 0 0;
      most = omega arith;
    }
