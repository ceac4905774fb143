use Rattle.std.proofs.Common.{◌≡◌, ◌≤◌, ◌+◌, ◌*◌, false, slice_index}
use Rattle.flash_area.specs.PageCopies.{KeepsOthers}
use Rattle.flash_device.specs.FlashCalls.{KeepsPower, SameElsewhere}
use Rattle.flash_device.specs.FlashLogs.{base_in}
use Rattle.flash_area.proofs.moving.put_in_spare.Given as goal

abbrev pub invariant-loop-slot : goal.invariant-loop-slot
invariant-loop-slot g l = let old = g.F.Flash.state l.initial.flash in let new = g.F.Flash.state l.flash in record {
  lit : new.dark ≡ false;
  steady : KeepsPower old new;
  failed : old.faults + l.slot ≤ new.faults + l.next;
  least : l.next ≤ l.slot;
  first : l.slot ≡ l.next → new.words ≡ old.words;
  operations : new.operations + 2 * old.faults ≤ old.operations + 2 * new.faults;
  erases : new.erases ≡ old.erases;
  elsewhere : SameElsewhere old.words (base_in g.F.Flash.SLOTS l.area) (20 * g.F.Flash.SLOTS) new.words;
  kept : KeepsOthers g.F.Flash.SLOTS old.words (base_in g.F.Flash.SLOTS l.area)
      (slice_index l.words 16) new.words l.slot;
}
