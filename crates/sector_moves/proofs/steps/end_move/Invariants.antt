use Rattle.std.proofs.Common.{◌≡◌, ◌≤◌, ◌+◌, false}
use Rattle.flash_device.specs.FlashCalls.{KeepsPower}
use Rattle.flash_device.specs.FlashLogs.{words_of}
use Rattle.sector_moves.specs.SectorPlaces.{IsSectorLog, StaysAtStep}
use Rattle.sector_moves.specs.SectorSpares.{HasMovedSteps}
use Rattle.sector_moves.proofs.steps.end_move.Given as goal

abbrev pub invariant-loop : goal.invariant-loop
invariant-loop g l =
    let slots = g.F.Flash.SLOTS in
    let pages = g.F.Flash.PAGES in
    let sectors = g.F.Flash.SECTORS in
    let start = g.F.Flash.sector_start in
    let old = g.F.Flash.state l.initial.flash in
    let new = g.F.Flash.state l.flash in record {
      lit : new.dark ≡ false;
      steady : KeepsPower old new;
      met : old.faults + l.counter ≤ new.faults + 1;
      operations : new.operations + 1 ≤ old.operations + l.counter;
      erases : new.erases ≡ old.erases;
      words : words_of pages slots new.words ≡ words_of pages slots old.words;
      log : IsSectorLog g.F.Table.PageTable.entries pages slots sectors start new.words l.place;
      stays : StaysAtStep l.initial.place l.place;
      moved : HasMovedSteps pages slots sectors start new.words l.initial.place.turn;
    }
