use Rattle.std.proofs.Common.{◌≡◌, ◌≤◌, ◌+◌, ◌-◌, ◌*◌, false}
use Rattle.flash_device.specs.declared.layout.TheConstants.{STEP_PAGES}
use Rattle.flash_device.specs.FlashCalls.{KeepsPower, SameElsewhere}
use Rattle.flash_device.specs.FlashLogs.{base_in, words_of}
use Rattle.flash_area.specs.Spares.{HasCopies, spare_in}
use Rattle.flash_moves.specs.Paces.{StaysCopied}
use Rattle.flash_moves.proofs.ahead.copy_step.Given as goal

abbrev pub invariant-loop-k : goal.invariant-loop-k
invariant-loop-k g l =
    let slots = g.F.Flash.SLOTS in
    let old = g.F.Flash.state l.initial.flash in
    let new = g.F.Flash.state l.flash in record {
      lit : new.dark ≡ false;
      steady : KeepsPower old new;
      operations : new.operations + 2 * old.faults ≤ old.operations + 2 * l.k + 2 * new.faults;
      erases : new.erases ≡ old.erases;
      passes : l.free + old.faults ≤ l.next + l.k + new.faults;
      room : l.free + STEP_PAGES ≤ slots + l.k;
      elsewhere : SameElsewhere old.words (spare_in slots l.turn) (20 * slots) new.words;
      copies : HasCopies g.F.Flash.PAGES slots new.words (words_of g.F.Flash.PAGES slots new.words)
          (base_in slots l.turn) (spare_in slots l.turn) (l.first + l.k) l.free 0;
      torn : l.next + STEP_PAGES + (new.faults - old.faults) ≤ slots
          → StaysCopied g.F.Flash.PAGES slots old.words new.words l.turn l.first l.next l.free;
    }
