use Rattle.std.proofs.Common.{◌≡◌, ◌≤◌, ◌+◌, ◌*◌, ℕ, true, false}
use Rattle.flash_device.specs.FlashCalls.{KeepsPower}
use Rattle.flash_device.specs.FlashLogs.{words_of}
use Rattle.flash_moves.specs.Paces.{IsCaughtUp, IsRoomy, failed_since}
use Rattle.flash_moves.specs.Places.{IsLog}
use Rattle.flash_log.specs.laws.Ending.{HasTaken}
use Rattle.flash_log.proofs.renewal.end_move.Given as goal

abbrev pub invariant-loop : goal.invariant-loop
invariant-loop g l =
    let slots = g.F.Flash.SLOTS in
    let pages = g.F.Flash.PAGES in
    let sectors = g.F.Flash.SECTORS in
    let old = g.F.Flash.state l.initial.flash in
    let new = g.F.Flash.state l.flash in record {
      lit : new.dark ≡ false;
      steady : KeepsPower old new;
      operations : new.operations + 2 * old.faults ≤ old.operations + 33 * l.counter + 2 * new.faults;
      erases : new.erases ≤ old.erases + l.counter;
      words : words_of pages slots new.words ≡ words_of pages slots old.words;
      log : IsLog g.F.Table.PageTable.entries pages slots sectors g.F.Flash.sector_start new.words l.place;
      ready : l.place.ready ≡ true;
      older : l.place.older ≡ 0;
      taken : (extra : ℕ) → IsRoomy pages slots sectors (extra + failed_since old new)
          → IsCaughtUp pages slots sectors extra l.initial.place
          → HasTaken pages slots sectors (extra + failed_since old new) l.counter l.place;
    }
