use Rattle.std.proofs.Common.{◌≡◌, ◌⊎◌, ◌<◌, ◌≤◌, ◌+◌, ◌*◌, true, false}
use Rattle.flash_device.specs.FlashCalls.{KeepsPower}
use Rattle.flash_device.specs.FlashLogs.{words_of}
use Rattle.sector_moves.specs.SectorPlaces.{IsSectorLog, place_steps}
use Rattle.sector_moves.specs.SectorSpares.{sector_lead}
use Rattle.sector_log.proofs.renewing.end_steps.Given as goal

abbrev pub invariant-loop : goal.invariant-loop
invariant-loop g l =
    let slots = g.F.Flash.SLOTS in
    let pages = g.F.Flash.PAGES in
    let sectors = g.F.Flash.SECTORS in
    let old = g.F.Flash.state l.initial.flash in
    let new = g.F.Flash.state l.flash in record {
      lit : new.dark ≡ false;
      steady : KeepsPower old new;
      operations : new.operations + 2 * old.faults ≤ old.operations + 36 * l.counter + 2 * new.faults;
      erases : new.erases ≤ old.erases + l.counter;
      words : words_of pages slots new.words ≡ words_of pages slots old.words;
      log : IsSectorLog g.F.Table.PageTable.entries pages slots sectors g.F.Flash.sector_start new.words l.place;
      ready : l.place.ready ≡ true;
      taken : (l.counter + place_steps pages sectors l.place ≤ sectors + 1)
          ⊎ (l.place.next + sector_lead sectors < slots);
    }
