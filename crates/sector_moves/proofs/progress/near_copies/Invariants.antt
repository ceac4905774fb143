use Rattle.std.proofs.Common.{◌≡◌, ◌<◌, ◌≤◌, ◌+◌, ℕ, false}
use Rattle.flash_device.specs.FlashCalls.{StaysLit}
use Rattle.sector_moves.specs.SectorSpares.{HasStepCopies}
use Rattle.sector_moves.proofs.progress.near_copies.Given as goal

abbrev pub invariant-loop-k : goal.invariant-loop-k
invariant-loop-k g l =
    let old = g.F.Flash.state l.initial.flash in
    let new = g.F.Flash.state l.flash in record {
      words : new.words ≡ old.words;
      work : new.operations ≡ old.operations;
      erases : new.erases ≡ old.erases;
      lit : new.dark ≡ false;
      steady : StaysLit old new;
      none : (c o : ℕ) → l.end ≤ c + l.k → c < l.end → HasStepCopies g.F.Flash.PAGES g.F.Flash.SLOTS
          g.F.Flash.SECTORS g.F.Flash.sector_start old.words l.turn c o → ⊥;
    }
