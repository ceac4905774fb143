use Rattle.std.proofs.Common.{◌≡◌, ◌<◌, ◌+◌, ℕ, false, get_or}
use Rattle.flash_device.specs.declared.flash.TheConstants.{BLANK}
use Rattle.flash_device.specs.FlashCalls.{StaysLit}
use Rattle.flash_area.proofs.record.is_blank.Given as goal

abbrev pub invariant-loop-k : goal.invariant-loop-k
invariant-loop-k g l = let old = g.F.Flash.state l.initial.flash in let new = g.F.Flash.state l.flash in record {
  words : new.words ≡ old.words;
  work : new.operations ≡ old.operations;
  erases : new.erases ≡ old.erases;
  lit : new.dark ≡ false;
  steady : StaysLit old new;
  blank : (j : ℕ) → j < l.k → get_or old.words (l.at + j) 0 ≡ BLANK;
}
