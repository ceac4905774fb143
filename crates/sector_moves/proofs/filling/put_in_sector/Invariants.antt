use Rattle.std.proofs.Common.{◌≡◌, ◌≤◌, ◌+◌, ◌-◌, ◌*◌, ℕ, false, slice_index}
use Rattle.flash_area.specs.PageCopies.{KeepsOthers}
use Rattle.flash_device.specs.FlashCalls.{KeepsPower, SameElsewhere}
use Rattle.flash_device.specs.FlashLogs.{base_in, slot_of}
use Rattle.flash_device.specs.PageTables.{AreFree}
use Rattle.sector_moves.specs.SectorSpares.{SpendsSlots}
use Rattle.sector_moves.proofs.filling.put_in_sector.Given as goal

abbrev pub invariant-loop-slot : goal.invariant-loop-slot
invariant-loop-slot g l =
    let base = base_in g.F.Flash.SLOTS l.area in
    let old = g.F.Flash.state l.initial.flash in
    let new = g.F.Flash.state l.flash in record {
      lit : new.dark ≡ false;
      steady : KeepsPower old new;
      failed : old.faults + l.slot ≤ new.faults + l.next;
      least : l.next ≤ l.slot;
      operations : new.operations + 2 * old.faults ≤ old.operations + 2 * new.faults;
      spends : SpendsSlots l.next l.slot old new;
      erases : new.erases ≡ old.erases;
      elsewhere : SameElsewhere old.words (slot_of base l.next) (20 * (l.end - l.next)) new.words;
      free : AreFree new.words base l.slot l.end;
      kept : (below : ℕ) → l.end ≤ below → AreFree old.words base l.next below
          → KeepsOthers below old.words base (slice_index l.words 16) new.words l.slot;
    }
