use Rattle.std.proofs.Common.{◌≡◌, ◌<◌, ℕ, false}
use Rattle.flash_device.specs.FlashCalls.{StaysLit}
use Rattle.flash_device.specs.FlashLogs.{base_in, page_word}
use Rattle.flash_area.specs.Spares.{spare_in}
use Rattle.sector_moves.proofs.progress.is_copy.Given as goal

abbrev pub invariant-loop-k : goal.invariant-loop-k
invariant-loop-k g l =
    let old = g.F.Flash.state l.initial.flash in
    let new = g.F.Flash.state l.flash in
    let slots = g.F.Flash.SLOTS in record {
      words : new.words ≡ old.words;
      work : new.operations ≡ old.operations;
      erases : new.erases ≡ old.erases;
      lit : new.dark ≡ false;
      steady : StaysLit old new;
      same : (j : ℕ) → j < l.k → page_word old.words (spare_in slots l.turn) l.below l.page j
          ≡ page_word old.words (base_in slots l.turn) slots l.page j;
    }
