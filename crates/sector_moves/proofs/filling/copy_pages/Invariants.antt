use Rattle.std.proofs.Common.{◌≡◌, ◌≤◌, ◌+◌, ◌-◌, ◌*◌, ℕ, List, false}
use Rattle.flash_device.specs.declared.layout.TheConstants.{STEP_PAGES}
use Rattle.flash_device.specs.FlashCalls.{KeepsPower, SameElsewhere}
use Rattle.flash_device.specs.FlashLogs.{base_in, slot_of, words_of}
use Rattle.flash_device.specs.PageTables.{AreFree}
use Rattle.flash_area.specs.Spares.{spare_in}
use Rattle.sector_moves.specs.SectorSpares.{HasSectorCopies, SpendsSlots}
use Rattle.sector_moves.proofs.filling.copy_pages.Given as goal

abbrev pub invariant-loop-k : goal.invariant-loop-k
invariant-loop-k g l =
    let slots = g.F.Flash.SLOTS in
    let pages = g.F.Flash.PAGES in
    let base = spare_in slots l.turn in
    let old = g.F.Flash.state l.initial.flash in
    let new = g.F.Flash.state l.flash in record {
      lit : new.dark ≡ false;
      steady : KeepsPower old new;
      operations : new.operations + 2 * old.faults ≤ old.operations + 2 * l.k + 2 * new.faults;
      spends : SpendsSlots l.next l.free old new;
      erases : new.erases ≡ old.erases;
      least : l.next ≤ l.free;
      passes : l.free + old.faults ≤ l.next + l.k + new.faults;
      room : l.free + STEP_PAGES ≤ l.end + l.k;
      elsewhere : SameElsewhere old.words (slot_of base l.next) (20 * (l.end - l.next)) new.words;
      rest : (below : ℕ) → l.end ≤ below → AreFree old.words base l.next below
          → AreFree new.words base l.free below;
      copies : (below : ℕ) (words : List ℕ) → l.end ≤ below → words ≡ words_of pages slots old.words
          → AreFree old.words base l.next below
          → HasSectorCopies pages slots old.words words (base_in slots l.turn) base below l.first 0
          → HasSectorCopies pages slots new.words words (base_in slots l.turn) base below (l.first + l.k) 0;
    }
