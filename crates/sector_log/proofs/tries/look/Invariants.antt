use Rattle.std.proofs.Common.{◌≡◌, ◌≤◌, ◌+◌, true, false}
use Rattle.flash_device.specs.FlashCalls.{KeepsPower}
use Rattle.sector_moves.specs.SectorPlaces.{IsSectorLog}
use Rattle.sector_log.proofs.tries.look.Given as goal

abbrev pub invariant-loop : goal.invariant-loop
invariant-loop g l = let old = g.F.Flash.state l.initial.flash in let new = g.F.Flash.state l.flash in record {
  lit : new.dark ≡ false;
  steady : KeepsPower old new;
  failed : old.faults + l.counter ≤ new.faults + 1;
  words : new.words ≡ old.words;
  work : new.operations ≡ old.operations;
  erases : new.erases ≡ old.erases;
  log : IsSectorLog g.F.Table.PageTable.entries g.F.Flash.PAGES g.F.Flash.SLOTS g.F.Flash.SECTORS
      g.F.Flash.sector_start new.words l.place;
  known : l.initial.place.ready ≡ true → (l.place ≡ l.initial.place) × (new ≡ old);
}
