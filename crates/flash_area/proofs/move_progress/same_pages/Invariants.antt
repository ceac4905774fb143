use Rattle.std.proofs.Common.{◌≡◌, ◌<◌, ◌≤◌, ℕ, false}
use Rattle.flash_device.specs.FlashCalls.{StaysLit}
use Rattle.flash_device.specs.FlashLogs.{base_in}
use Rattle.flash_area.specs.ProgressParts.{ReadsSame}
use Rattle.flash_area.specs.Spares.{spare_in}
use Rattle.flash_area.proofs.move_progress.same_pages.Given as goal

abbrev pub invariant-loop-page : goal.invariant-loop-page
invariant-loop-page g l =
    let old = g.F.Flash.state l.initial.flash in
    let new = g.F.Flash.state l.flash in
    let slots = g.F.Flash.SLOTS in record {
      words : new.words ≡ old.words;
      work : new.operations ≡ old.operations;
      erases : new.erases ≡ old.erases;
      lit : new.dark ≡ false;
      steady : StaysLit old new;
      least : l.first ≤ l.page;
      same : (p : ℕ) → l.first ≤ p → p < l.page → ReadsSame slots old.words (base_in slots l.turn)
          (spare_in slots l.turn) p;
    }
