use Rattle.std.proofs.Common.{◌≡◌, ◌≤◌, ◌-◌, false}
use Rattle.flash_device.specs.declared.flash.TheConstants.{BLANK}
use Rattle.flash_device.specs.FlashCalls.{AreFilled, StaysLit}
use Rattle.sector_moves.proofs.progress.is_blank_sector.Given as goal

abbrev pub invariant-loop-at : goal.invariant-loop-at
invariant-loop-at g l =
    let old = g.F.Flash.state l.initial.flash in
    let new = g.F.Flash.state l.flash in
    let start = g.F.Flash.sector_start in record {
      words : new.words ≡ old.words;
      work : new.operations ≡ old.operations;
      erases : new.erases ≡ old.erases;
      lit : new.dark ≡ false;
      steady : StaysLit old new;
      least : start l.sector ≤ l.at;
      blank : AreFilled old.words (start l.sector) (l.at - start l.sector) BLANK;
    }
