use Rattle.std.proofs.Common.{◌≡◌, ◌-◌, false}
use Rattle.flash_device.specs.declared.flash.TheConstants.{BLANK}
use Rattle.flash_device.specs.FlashCalls.{AreFilled, StaysLit}
use Rattle.sector_moves.specs.SectorSpares.{last_start}
use Rattle.sector_moves.proofs.progress.blank_sectors.Given as goal

abbrev pub invariant-loop-n : goal.invariant-loop-n
invariant-loop-n g l =
    let old = g.F.Flash.state l.initial.flash in
    let new = g.F.Flash.state l.flash in
    let from = last_start g.F.Flash.PAGES g.F.Flash.SECTORS g.F.Flash.sector_start l.turn in record {
      words : new.words ≡ old.words;
      work : new.operations ≡ old.operations;
      erases : new.erases ≡ old.erases;
      lit : new.dark ≡ false;
      steady : StaysLit old new;
      blank : AreFilled old.words (from 0) (from l.n - from 0) BLANK;
    }
