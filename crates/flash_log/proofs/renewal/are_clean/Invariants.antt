use Rattle.std.proofs.Common.{◌≡◌, false}
use Rattle.flash_device.specs.FlashCalls.{StaysLit}
use Rattle.flash_device.specs.FlashLogs.{base_in}
use Rattle.flash_log.specs.Renewals.{AreClean}
use Rattle.flash_log.proofs.renewal.are_clean.Given as goal

abbrev pub invariant-loop-slot : goal.invariant-loop-slot
invariant-loop-slot g l = let old = g.F.Flash.state l.initial.flash in let new = g.F.Flash.state l.flash in record {
  words : new.words ≡ old.words;
  work : new.operations ≡ old.operations;
  erases : new.erases ≡ old.erases;
  lit : new.dark ≡ false;
  steady : StaysLit old new;
  clean : AreClean g.F.Flash.PAGES g.F.Flash.SLOTS old.words (base_in g.F.Flash.SLOTS l.area) l.slot;
}
