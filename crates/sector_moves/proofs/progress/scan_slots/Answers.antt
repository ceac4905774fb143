use Rattle.std.proofs.Common.{◌∙◌, sym, refl, arith}
use Rattle.flash_device.specs.FlashLogs.{base_in}
use Rattle.flash_device.specs.laws.Indexing.{find_zero, first_none, free_none}
use Rattle.sector_moves.proofs.progress.scan_slots.Goals as goal

pub loop-slot-init : goal.loop-slot-init
loop-slot-init g c =
    let slots = g.F.Flash.SLOTS in
    let m = (g.F.Flash.state c.args.flash.now).words in
    let base = base_in slots c.args.area in
    record {
      words = refl;
      work = refl;
      erases = refl;
      lit = c.requires.lit;
      steady = record { lit = c.requires.lit; due = refl; faults = refl };
      index = record {
        each = λ p lt. let all = g.met.F.Flash.table_fits c.blank.result in
            c.blank.ensures p (omega (arith, lt, all)) ∙ sym (find_zero m base p);
      };
      free = free_none m base 0;
      first = first_none m base;
    }
