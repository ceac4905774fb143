use Rattle.std.proofs.Common.{◌≡◌, false}
use Rattle.flash_device.specs.FlashCalls.{StaysLit}
use Rattle.flash_device.specs.PageTables.{IsPageTable, AreFree, IsFirstFreeSlot}
use Rattle.flash_device.specs.FlashLogs.{base_in}
use Rattle.sector_moves.proofs.progress.scan_slots.Given as goal

abbrev pub invariant-loop-slot : goal.invariant-loop-slot
invariant-loop-slot g l = let old = g.F.Flash.state l.initial.flash in let new = g.F.Flash.state l.flash in record {
  words : new.words ≡ old.words;
  work : new.operations ≡ old.operations;
  erases : new.erases ≡ old.erases;
  lit : new.dark ≡ false;
  steady : StaysLit old new;
  index : IsPageTable g.F.Flash.PAGES old.words (base_in g.F.Flash.SLOTS l.area) l.slot
      (g.F.Table.PageTable.entries l.table);
  free : AreFree old.words (base_in g.F.Flash.SLOTS l.area) l.next l.slot;
  first : IsFirstFreeSlot old.words (base_in g.F.Flash.SLOTS l.area) l.next l.slot;
}
