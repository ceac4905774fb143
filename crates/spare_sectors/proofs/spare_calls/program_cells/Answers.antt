use Rattle.std.proofs.Common.{◌≤◌, ◌+◌, ◌*◌, ℕ, length, refl, sym, subst}
use Rattle.flash_device.specs.declared.flash.TheConstants.{BLANK}
use Rattle.flash_device.specs.FlashCalls.{AreFilled, IsThere, SameElsewhere}
use Rattle.spare_sectors.specs.SparePlaces.{all_sectors}
use Rattle.spare_sectors.specs.laws.SpareImages.{run_blank, run_elsewhere, run_there, run_within}
use Rattle.spare_sectors.specs.laws.SpareParts.{run_part, run_some}
use Rattle.spare_sectors.proofs.spare_calls.program_cells.Goals as goal

pub program-requires-clause-blank : goal.program-requires-clause-blank
program-requires-clause-blank g c =
    let n = length c.args.words.now in
    let m = (g.D.MapDevice.state c.args.device.now).flash.words in
    let map = (g.D.MapDevice.state c.args.device.now).map in
    subst (λ (k : ℕ). AreFilled m k n BLANK) (sym c.place_of-place.ensures.is)
    (run_blank g.D.SpareDevice.SLOTS g.D.MapDevice.SECTORS g.D.SpareDevice.SECTOR_SLOTS g.D.SpareDevice.SECTOR_WORDS
    g.D.MapDevice.SPARES g.met.D.SpareDevice.sectors_fit map c.args.at n c.requires.within
    (λ k lt. run_part g.D.SpareDevice.SLOTS g.D.MapDevice.SECTORS g.D.SpareDevice.SECTOR_SLOTS
    g.D.SpareDevice.SECTOR_WORDS
    g.D.MapDevice.SPARES g.met.D.SpareDevice.sectors_fit c.args.at n k c.requires.run lt) m BLANK c.requires.blank)

pub program-requires-clause-within : goal.program-requires-clause-within
program-requires-clause-within g c =
    let n = length c.args.words.now in
    let m = (g.D.MapDevice.state c.args.device.now).flash.words in
    let map = (g.D.MapDevice.state c.args.device.now).map in
    let some = run_some g.D.SpareDevice.SLOTS g.D.MapDevice.SECTORS g.D.SpareDevice.SECTOR_SLOTS
    g.D.SpareDevice.SECTOR_WORDS
    g.D.MapDevice.SPARES g.met.D.SpareDevice.sectors_fit c.args.at n c.requires.run in
    subst (λ (k : ℕ). k + n ≤ g.D.SpareDevice.SECTOR_WORDS
    * all_sectors g.D.MapDevice.SECTORS g.D.MapDevice.SPARES) (sym c.place_of-place.ensures.is)
    (run_within g.D.SpareDevice.SLOTS g.D.MapDevice.SECTORS g.D.SpareDevice.SECTOR_SLOTS
    g.D.SpareDevice.SECTOR_WORDS
    g.D.MapDevice.SPARES g.met.D.SpareDevice.sectors_fit map c.args.at n c.requires.within
    (λ k lt. run_part g.D.SpareDevice.SLOTS g.D.MapDevice.SECTORS g.D.SpareDevice.SECTOR_SLOTS
    g.D.SpareDevice.SECTOR_WORDS
    g.D.MapDevice.SPARES g.met.D.SpareDevice.sectors_fit c.args.at n k c.requires.run lt) some)

pub returns-in_err-program-clause-elsewhere : goal.returns-in_err-program-clause-elsewhere
returns-in_err-program-clause-elsewhere g c =
    let n = length c.args.words.now in
    let m = (g.D.MapDevice.state c.args.device.now).flash.words in
    let map = (g.D.MapDevice.state c.args.device.now).map in
    let after = (g.D.MapDevice.state c.program.new.self).flash.words in
    let some = run_some g.D.SpareDevice.SLOTS g.D.MapDevice.SECTORS g.D.SpareDevice.SECTOR_SLOTS
    g.D.SpareDevice.SECTOR_WORDS
    g.D.MapDevice.SPARES g.met.D.SpareDevice.sectors_fit c.args.at n c.requires.run in
    run_elsewhere g.D.SpareDevice.SLOTS g.D.MapDevice.SECTORS g.D.SpareDevice.SECTOR_SLOTS
    g.D.SpareDevice.SECTOR_WORDS
    g.D.MapDevice.SPARES g.met.D.SpareDevice.sectors_fit map c.args.at n c.requires.within
    (λ k lt. run_part g.D.SpareDevice.SLOTS g.D.MapDevice.SECTORS g.D.SpareDevice.SECTOR_SLOTS
    g.D.SpareDevice.SECTOR_WORDS
    g.D.MapDevice.SPARES g.met.D.SpareDevice.sectors_fit c.args.at n k c.requires.run lt) m after some
    (subst (λ (k : ℕ). SameElsewhere m k n after) c.place_of-place.ensures.is c.program.ensures.elsewhere)

pub returns-clause-elsewhere : goal.returns-clause-elsewhere
returns-clause-elsewhere g c =
    let n = length c.args.words.now in
    let m = (g.D.MapDevice.state c.args.device.now).flash.words in
    let map = (g.D.MapDevice.state c.args.device.now).map in
    let after = (g.D.MapDevice.state c.program.new.self).flash.words in
    let some = run_some g.D.SpareDevice.SLOTS g.D.MapDevice.SECTORS g.D.SpareDevice.SECTOR_SLOTS
    g.D.SpareDevice.SECTOR_WORDS
    g.D.MapDevice.SPARES g.met.D.SpareDevice.sectors_fit c.args.at n c.requires.run in
    run_elsewhere g.D.SpareDevice.SLOTS g.D.MapDevice.SECTORS g.D.SpareDevice.SECTOR_SLOTS
    g.D.SpareDevice.SECTOR_WORDS
    g.D.MapDevice.SPARES g.met.D.SpareDevice.sectors_fit map c.args.at n c.requires.within
    (λ k lt. run_part g.D.SpareDevice.SLOTS g.D.MapDevice.SECTORS g.D.SpareDevice.SECTOR_SLOTS
    g.D.SpareDevice.SECTOR_WORDS
    g.D.MapDevice.SPARES g.met.D.SpareDevice.sectors_fit c.args.at n k c.requires.run lt) m after some
    (subst (λ (k : ℕ). SameElsewhere m k n after) c.place_of-place.ensures.is c.program.ensures.elsewhere)

pub returns-clause-done : goal.returns-clause-done
returns-clause-done g c =
    let n = length c.args.words.now in
    let m = (g.D.MapDevice.state c.args.device.now).flash.words in
    let map = (g.D.MapDevice.state c.args.device.now).map in
    let after = (g.D.MapDevice.state c.program.new.self).flash.words in
    run_there g.D.SpareDevice.SLOTS g.D.MapDevice.SECTORS g.D.SpareDevice.SECTOR_SLOTS g.D.SpareDevice.SECTOR_WORDS
    g.D.MapDevice.SPARES g.met.D.SpareDevice.sectors_fit map c.args.at n c.requires.within
    (λ k lt. run_part g.D.SpareDevice.SLOTS g.D.MapDevice.SECTORS g.D.SpareDevice.SECTOR_SLOTS
    g.D.SpareDevice.SECTOR_WORDS
    g.D.MapDevice.SPARES g.met.D.SpareDevice.sectors_fit c.args.at n k c.requires.run lt) after c.args.words.now
    refl
    (subst (λ (k : ℕ). IsThere after k c.args.words.now) c.place_of-place.ensures.is c.in_ok-program.ensures.done)
