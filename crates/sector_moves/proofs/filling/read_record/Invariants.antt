use Rattle.std.proofs.Common.{◌≡◌, ◌≤◌, ◌+◌, false}
use Rattle.flash_device.specs.FlashCalls.{KeepsPower}
use Rattle.sector_moves.proofs.filling.read_record.Given as goal

abbrev pub invariant-loop : goal.invariant-loop
invariant-loop g l = let old = g.F.Flash.state l.initial.flash in let new = g.F.Flash.state l.flash in record {
  lit : new.dark ≡ false;
  steady : KeepsPower old new;
  failed : old.faults + l.counter ≤ new.faults + 1;
  words : new.words ≡ old.words;
  work : new.operations ≡ old.operations;
  erases : new.erases ≡ old.erases;
}
