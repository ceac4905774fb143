use Rattle.std.proofs.Common.{◌≡◌, ◌≤◌, ◌+◌, ◌-◌, false}
use Rattle.flash_device.specs.declared.flash.TheConstants.{BLANK}
use Rattle.flash_device.specs.FlashCalls.{AreFilled, SameElsewhere, StaysLit}
use Rattle.flash_device.proofs.erasing.erase_sectors.Given as goal

abbrev pub invariant-loop-sector : goal.invariant-loop-sector
invariant-loop-sector g l =
    let old = g.F.Flash.state l.initial.flash in
    let new = g.F.Flash.state l.flash in
    let start = g.F.Flash.sector_start in record {
      lit : new.dark ≡ false;
      steady : StaysLit old new;
      least : l.from ≤ l.sector;
      work : new.operations ≤ old.operations + (l.sector - l.from);
      erases : new.erases ≤ old.erases + (l.sector - l.from);
      done : AreFilled new.words (start l.from) (start l.sector - start l.from) BLANK;
      elsewhere : SameElsewhere old.words (start l.from) (start l.sector - start l.from) new.words;
    }
