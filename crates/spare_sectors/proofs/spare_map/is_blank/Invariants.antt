use Rattle.std.proofs.Common.{◌≡◌, ◌<◌, ◌+◌, ℕ, false, get_or}
use Rattle.flash_device.specs.declared.flash.TheConstants.{BLANK}
use Rattle.flash_device.specs.FlashCalls.{StaysLit}
use Rattle.spare_sectors.proofs.spare_map.is_blank.Given as goal

abbrev pub invariant-loop-k : goal.invariant-loop-k
invariant-loop-k g l =
    let old = g.D.MapDevice.state l.initial.device in let new = g.D.MapDevice.state l.device in record {
      words : new.flash.words ≡ old.flash.words;
      programs : new.programs ≡ old.programs;
      map : new.map ≡ old.map;
      work : new.flash.operations ≡ old.flash.operations;
      erases : new.flash.erases ≡ old.flash.erases;
      kept : new.flash.kept ≡ old.flash.kept;
      begun : new.begun ≡ old.begun;
      lit : new.flash.dark ≡ false;
      steady : StaysLit old.flash new.flash;
      blank : (j : ℕ) → j < l.k → get_or old.map (l.at + j) 0 ≡ BLANK;
    }
