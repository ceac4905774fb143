use Rattle.std.proofs.Common.{◌≡◌, ◌+◌, ◌*◌, ℕ, suc, List, refl, sym, subst, ap, ◌∙◌, arith}
use Rattle.flash_device.specs.declared.flash.TheConstants.{BLANK}
use Rattle.flash_device.specs.FlashCalls.{AreFilled, SameElsewhere}
use Rattle.flash_device.specs.FlashLogs.{find}
use Rattle.flash_device.specs.laws.Marks.{elsewhere_none}
use Rattle.spare_sectors.specs.SpareMaps.{MovesOnly}
use Rattle.spare_sectors.specs.laws.SpareImages.{lies_spare}
use Rattle.spare_sectors.specs.laws.SpareSteps.{taken_elsewhere, taken_filled}
use Rattle.spare_sectors.proofs.spare_calls.take_spare.Goals as goal

pub returns-in_err-put_entry-clause-elsewhere : goal.returns-in_err-put_entry-clause-elsewhere
returns-in_err-put_entry-clause-elsewhere g c =
    let size = g.D.SpareDevice.SECTOR_WORDS in
    let old = g.D.MapDevice.state c.args.device.now in
    let new = g.D.MapDevice.state c.put_entry.new.device in
    taken_elsewhere g.D.SpareDevice.SLOTS g.D.MapDevice.SECTORS g.D.SpareDevice.SECTOR_SLOTS size
    g.D.MapDevice.SPARES g.met.D.SpareDevice.sectors_fit old.flash.words new.flash.words old.map c.args.sector
    c.requires.sector new.map c.args.entry
    (elsewhere_none old.flash.words new.flash.words (size * (2 * g.D.MapDevice.SECTORS + 1 + c.args.entry)) size
    c.put_entry.ensures.words)
    c.requires.free c.requires.below c.put_entry.ensures.moves

pub returns-in_err-erase-clause-elsewhere : goal.returns-in_err-erase-clause-elsewhere
returns-in_err-erase-clause-elsewhere g c =
    let size = g.D.SpareDevice.SECTOR_WORDS in
    let old = g.D.MapDevice.state c.args.device.now in
    let mid = g.D.MapDevice.state c.put_entry.new.device in
    let new = g.D.MapDevice.state c.erase.new.self in
    let q = 2 * g.D.MapDevice.SECTORS + 1 + c.args.entry in
    let change : SameElsewhere old.flash.words (size * q) size new.flash.words =
    subst (λ (l : List ℕ). SameElsewhere l (size * q) size new.flash.words) c.put_entry.ensures.words
    (subst (λ (k : ℕ). SameElsewhere mid.flash.words (size * (2 * k + 1 + c.args.entry)) size new.flash.words)
    c.SECTORS.ensures c.erase.ensures.elsewhere) in
    let moves : MovesOnly g.D.MapDevice.SPARES old.map c.args.sector new.map =
    subst (λ (l : List ℕ). MovesOnly g.D.MapDevice.SPARES old.map c.args.sector l) (sym c.erase.ensures.map)
    c.put_entry.ensures.moves in
    taken_elsewhere g.D.SpareDevice.SLOTS g.D.MapDevice.SECTORS g.D.SpareDevice.SECTOR_SLOTS size
    g.D.MapDevice.SPARES g.met.D.SpareDevice.sectors_fit old.flash.words new.flash.words old.map c.args.sector
    c.requires.sector new.map c.args.entry change c.requires.free c.requires.below moves

pub returns-clause-elsewhere : goal.returns-clause-elsewhere
returns-clause-elsewhere g c =
    let size = g.D.SpareDevice.SECTOR_WORDS in
    let old = g.D.MapDevice.state c.args.device.now in
    let mid = g.D.MapDevice.state c.put_entry.new.device in
    let new = g.D.MapDevice.state c.erase.new.self in
    let q = 2 * g.D.MapDevice.SECTORS + 1 + c.args.entry in
    let change : SameElsewhere old.flash.words (size * q) size new.flash.words =
    subst (λ (l : List ℕ). SameElsewhere l (size * q) size new.flash.words) c.put_entry.ensures.words
    (subst (λ (k : ℕ). SameElsewhere mid.flash.words (size * (2 * k + 1 + c.args.entry)) size new.flash.words)
    c.SECTORS.ensures c.erase.ensures.elsewhere) in
    let moves : MovesOnly g.D.MapDevice.SPARES old.map c.args.sector new.map =
    subst (λ (l : List ℕ). MovesOnly g.D.MapDevice.SPARES old.map c.args.sector l) (sym c.erase.ensures.map)
    c.put_entry.ensures.moves in
    taken_elsewhere g.D.SpareDevice.SLOTS g.D.MapDevice.SECTORS g.D.SpareDevice.SECTOR_SLOTS size
    g.D.MapDevice.SPARES g.met.D.SpareDevice.sectors_fit old.flash.words new.flash.words old.map c.args.sector
    c.requires.sector new.map c.args.entry change c.requires.free c.requires.below moves

pub returns-clause-done : goal.returns-clause-done
returns-clause-done g c =
    let size = g.D.SpareDevice.SECTOR_WORDS in
    let old = g.D.MapDevice.state c.args.device.now in
    let mid = g.D.MapDevice.state c.put_entry.new.device in
    let new = g.D.MapDevice.state c.erase.new.self in
    let q = 2 * g.D.MapDevice.SECTORS + 1 + c.args.entry in
    let change : SameElsewhere old.flash.words (size * q) size new.flash.words =
    subst (λ (l : List ℕ). SameElsewhere l (size * q) size new.flash.words) c.put_entry.ensures.words
    (subst (λ (k : ℕ). SameElsewhere mid.flash.words (size * (2 * k + 1 + c.args.entry)) size new.flash.words)
    c.SECTORS.ensures c.erase.ensures.elsewhere) in
    let filled : AreFilled new.flash.words (size * q) size BLANK =
    subst (λ (k : ℕ). AreFilled new.flash.words (size * (2 * k + 1 + c.args.entry)) size BLANK)
    c.SECTORS.ensures c.in_ok-erase.ensures.done in
    let found : find new.map 0 g.D.MapDevice.SPARES c.args.sector ≡ c.args.entry + 1 =
    ap (λ (l : List ℕ). find l 0 g.D.MapDevice.SPARES c.args.sector) c.erase.ensures.map
    ∙ c.in_ok-put_entry.ensures.done in
    taken_filled g.D.SpareDevice.SLOTS g.D.MapDevice.SECTORS g.D.SpareDevice.SECTOR_SLOTS size
    g.D.MapDevice.SPARES g.met.D.SpareDevice.sectors_fit old.flash.words new.flash.words old.map c.args.sector
    c.requires.sector new.map c.args.entry change BLANK found filled

pub returns-clause-tries : goal.returns-clause-tries
returns-clause-tries g c =
    let sectors = g.D.MapDevice.SECTORS in
    let new = g.D.MapDevice.state c.erase.new.self in
    let one : c.args.entry + 1 ≡ suc c.args.entry = omega arith in
    let found : find new.map 0 g.D.MapDevice.SPARES c.args.sector ≡ suc c.args.entry =
    ap (λ (l : List ℕ). find l 0 g.D.MapDevice.SPARES c.args.sector) c.erase.ensures.map
    ∙ c.in_ok-put_entry.ensures.done ∙ one in
    let there : 2 * sectors + suc c.args.entry ≡ 2 * sectors + 1 + c.args.entry = omega arith in
    record {
      begun = c.erase.ensures.begun ∙ c.put_entry.ensures.begun;
      lies = λ ok. lies_spare sectors g.D.MapDevice.SPARES new.map c.args.sector c.args.entry found ∙ there;
      same = λ ok. c.in_ok-erase.ensures.blames.ok refl ∙ c.in_ok-put_entry.ensures.blames.ok refl;
      fault = λ failed. absurd cc;
    }
