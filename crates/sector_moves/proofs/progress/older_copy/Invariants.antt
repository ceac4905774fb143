use Rattle.std.proofs.Common.{◌≡◌, ◌≢◌, ◌⊎◌, ◌<◌, ◌≤◌, ◌+◌, ◌-◌, ℕ, false}
use Rattle.flash_device.specs.FlashCalls.{StaysLit}
use Rattle.flash_device.specs.FlashLogs.{base_in}
use Rattle.flash_area.specs.Spares.{spare_in}
use Rattle.sector_moves.specs.SectorSpares.{ReadsAsCopy}
use Rattle.sector_moves.proofs.progress.older_copy.Given as goal

abbrev pub invariant-loop-k : goal.invariant-loop-k
invariant-loop-k g l =
    let old = g.F.Flash.state l.initial.flash in
    let new = g.F.Flash.state l.flash in
    let slots = g.F.Flash.SLOTS in
    let from = base_in slots l.turn in
    let to = spare_in slots l.turn in record {
      words : new.words ≡ old.words;
      work : new.operations ≡ old.operations;
      erases : new.erases ≡ old.erases;
      lit : new.dark ≡ false;
      steady : StaysLit old new;
      most : l.older ≤ l.pages;
      place : (l.older ≡ 0) ⊎ (l.pages < l.older + l.k);
      differs : l.older ≢ 0 → ¬ ReadsAsCopy slots old.words from to l.below (l.older - 1);
      same : (p : ℕ) → l.pages ≤ p + l.k → p < l.pages → p + 1 ≢ l.older
          → ReadsAsCopy slots old.words from to l.below p;
    }
