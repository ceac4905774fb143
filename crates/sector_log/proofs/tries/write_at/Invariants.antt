use Rattle.std.proofs.Common.{◌≡◌, ◌⊎◌, ◌<◌, ◌≤◌, ◌+◌, ◌*◌, true, false}
use Rattle.nvm_board.specs.History.{written}
use Rattle.flash_device.specs.FlashBlocks.{steps_of}
use Rattle.flash_device.specs.FlashCalls.{KeepsPower}
use Rattle.flash_device.specs.FlashLogs.{words_of}
use Rattle.flash_moves.specs.Paces.{free_slots}
use Rattle.sector_moves.specs.SectorPlaces.{IsSectorLog}
use Rattle.sector_log.specs.SectorLogs.{HasBeside, StaysInStep}
use Rattle.sector_moves.specs.SectorSpares.{sector_lead, spare_slot}
use Rattle.sector_log.proofs.tries.write_at.Given as goal

abbrev pub invariant-loop : goal.invariant-loop
invariant-loop g l =
    let slots = g.F.Flash.SLOTS in
    let pages = g.F.Flash.PAGES in
    let sectors = g.F.Flash.SECTORS in
    let start = g.F.Flash.sector_start in
    let old = g.F.Flash.state l.fn.flash in
    let new = g.F.Flash.state l.flash in record {
      lit : new.dark ≡ false;
      steady : KeepsPower old new;
      failed : old.faults + l.counter ≤ new.faults + 1;
      most : new.operations + 2 ≤ old.operations + 48 + 2 * l.counter;
      work : new.operations + 2 * old.faults ≤ old.operations + 36 + 2 * new.faults;
      erases : new.erases ≤ old.erases + 1;
      log : IsSectorLog g.F.Table.PageTable.entries pages slots sectors start new.words l.place;
      takes : StaysInStep pages slots sectors l.page l.place;
      beside : l.fn.place.ready ≡ true → HasBeside pages slots sectors old.faults new.faults l.fn.place l.place;
      calm : sector_lead sectors < free_slots slots l.fn.place → (l.place.next + 1 ≡ l.fn.place.next + l.counter)
          × (new.operations + 2 ≤ old.operations + 2 * l.counter) × (new.erases ≡ old.erases);
      next : new.faults ≡ old.faults → 0 < free_slots slots l.fn.place → (l.place.next ≡ l.fn.place.next)
          ⊎ (l.place.next ≡ spare_slot slots sectors start l.fn.place.turn (steps_of pages));
      whole : (words_of pages slots new.words ≡ words_of pages slots old.words) ⊎ (words_of pages slots new.words
          ≡ written (words_of pages slots old.words) (16 * l.page + l.first) l.words);
    }
