use Rattle.std.proofs.Common.{◌≡◌, ◌<◌, ℕ, false, length, get_or}
use Rattle.flash_device.specs.FlashCalls.{StaysLit}
use Rattle.flash_device.specs.FlashLogs.{base_in, page_word}
use Rattle.flash_area.proofs.image.record_of.Given as goal

abbrev pub invariant-loop-k : goal.invariant-loop-k
invariant-loop-k g l = let old = g.F.Flash.state l.initial.flash in let new = g.F.Flash.state l.flash in record {
  words : new.words ≡ old.words;
  work : new.operations ≡ old.operations;
  erases : new.erases ≡ old.erases;
  lit : new.dark ≡ false;
  steady : StaysLit old new;
  size : length l.found ≡ 18;
  each : (j : ℕ) → j < l.k → get_or l.found j 0
      ≡ page_word old.words (base_in g.F.Flash.SLOTS l.area) g.F.Flash.SLOTS l.page j;
  unused : get_or l.found 17 0 ≡ 0;
}
