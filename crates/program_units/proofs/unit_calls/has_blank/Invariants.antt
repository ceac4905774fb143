use Rattle.std.proofs.Common.{◌≡◌, ◌<◌, ◌+◌, ℕ, false, slice_index}
use Rattle.flash_device.specs.declared.flash.TheConstants.{BLANK}
use Rattle.flash_device.specs.FlashCalls.{StaysLit}
use Rattle.program_units.proofs.unit_calls.has_blank.Given as goal

abbrev pub invariant-loop-k : goal.invariant-loop-k
invariant-loop-k g l =
    let old = g.D.UnitDevice.state l.initial.device in let new = g.D.UnitDevice.state l.device in record {
      words : new.flash.words ≡ old.flash.words;
      programs : new.programs ≡ old.programs;
      work : new.flash.operations ≡ old.flash.operations;
      erases : new.flash.erases ≡ old.flash.erases;
      kept : new.flash.kept ≡ old.flash.kept;
      lit : new.flash.dark ≡ false;
      steady : StaysLit old.flash new.flash;
      blank : (j : ℕ) → j < l.k → slice_index old.flash.words (l.at + j) ≡ BLANK;
    }
