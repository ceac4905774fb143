use Rattle.std.proofs.Common.{◌≡◌, ◌≤◌, ◌+◌, ◌*◌, false}
use Rattle.flash_device.specs.FlashCalls.{StaysLit}
use Rattle.flash_device.specs.PageTables.{IsPageTable, AreFree}
use Rattle.spare_sectors.proofs.spare_map.scan_map.Given as goal

abbrev pub invariant-loop-entry : goal.invariant-loop-entry
invariant-loop-entry g l =
    let old = g.D.MapDevice.state l.initial.device in let new = g.D.MapDevice.state l.device in record {
      words : new.flash.words ≡ old.flash.words;
      programs : new.programs ≡ old.programs;
      map : new.map ≡ old.map;
      work : new.flash.operations ≡ old.flash.operations;
      erases : new.flash.erases ≡ old.flash.erases;
      kept : new.flash.kept ≡ old.flash.kept;
      begun : new.begun ≡ old.begun;
      lit : new.flash.dark ≡ false;
      steady : StaysLit old.flash new.flash;
      index : IsPageTable (2 * g.D.MapDevice.SECTORS + 1) old.map 0 l.entry (g.D.Map.PageTable.entries l.table);
      free : AreFree old.map 0 l.next l.entry;
      most : l.next ≤ old.begun;
    }
