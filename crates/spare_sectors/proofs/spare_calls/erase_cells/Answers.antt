use Rattle.std.proofs.Common.{◌≡◌, ◌*◌, ℕ, subst, ◌∙◌, rules}
use Rattle.flash_device.specs.declared.flash.TheConstants.{BLANK}
use Rattle.flash_device.specs.FlashCalls.{AreFilled, SameElsewhere}
use Rattle.spare_sectors.specs.SparePlaces.{lies_in}
use Rattle.spare_sectors.specs.SpareStates.{Blames}
use Rattle.spare_sectors.specs.declared.map_device.SparePart.TheVariants.{Sector}
use Rattle.spare_sectors.specs.laws.SpareSteps.{erased_elsewhere, erased_filled, lies_table, table_most}
use Rattle.spare_sectors.proofs.spare_calls.erase_cells.Goals as goal

pub lies_at-requires-clause-spare : goal.lies_at-requires-clause-spare
lies_at-requires-clause-spare g c =
    table_most g.D.MapDevice.SECTORS g.D.MapDevice.SPARES _ _ c.requires.index c.args.sector c.requires.sector

pub returns-in_err-erase-clause-elsewhere : goal.returns-in_err-erase-clause-elsewhere
returns-in_err-erase-clause-elsewhere g c =
    let size = g.D.SpareDevice.SECTOR_WORDS in
    let m = (g.D.MapDevice.state c.args.device.now).flash.words in
    let after = (g.D.MapDevice.state c.erase.new.self).flash.words in
    let map = (g.D.MapDevice.state c.args.device.now).map in
    let here : c.lies_at.result ≡ lies_in g.D.MapDevice.SECTORS g.D.MapDevice.SPARES map c.args.sector =
    c.lies_at.ensures.is
    ∙ lies_table g.D.MapDevice.SECTORS g.D.MapDevice.SPARES map _ c.requires.index c.args.sector
    c.requires.sector in
    erased_elsewhere g.D.SpareDevice.SLOTS g.D.MapDevice.SECTORS g.D.SpareDevice.SECTOR_SLOTS size
    g.D.MapDevice.SPARES g.met.D.SpareDevice.sectors_fit m after map c.args.sector c.requires.sector
    (subst (λ (k : ℕ). SameElsewhere m (size * k) size after) here c.erase.ensures.elsewhere)

pub returns-in_err-erase-clause-blames : goal.returns-in_err-erase-clause-blames
returns-in_err-erase-clause-blames g c =
    let old = g.D.MapDevice.state c.args.device.now in
    let new = g.D.MapDevice.state c.erase.new.self in
    let here : c.lies_at.result ≡ lies_in g.D.MapDevice.SECTORS g.D.MapDevice.SPARES old.map c.args.sector =
    c.lies_at.ensures.is
    ∙ lies_table g.D.MapDevice.SECTORS g.D.MapDevice.SPARES old.map _ c.requires.index c.args.sector
    c.requires.sector in
    let told = subst (λ (k : ℕ). Blames (Sector k) old new c.erase.result) here c.erase.ensures.blames in
    search (rules, told)

pub returns-clause-elsewhere : goal.returns-clause-elsewhere
returns-clause-elsewhere g c =
    let size = g.D.SpareDevice.SECTOR_WORDS in
    let m = (g.D.MapDevice.state c.args.device.now).flash.words in
    let after = (g.D.MapDevice.state c.erase.new.self).flash.words in
    let map = (g.D.MapDevice.state c.args.device.now).map in
    let here : c.lies_at.result ≡ lies_in g.D.MapDevice.SECTORS g.D.MapDevice.SPARES map c.args.sector =
    c.lies_at.ensures.is
    ∙ lies_table g.D.MapDevice.SECTORS g.D.MapDevice.SPARES map _ c.requires.index c.args.sector
    c.requires.sector in
    erased_elsewhere g.D.SpareDevice.SLOTS g.D.MapDevice.SECTORS g.D.SpareDevice.SECTOR_SLOTS size
    g.D.MapDevice.SPARES g.met.D.SpareDevice.sectors_fit m after map c.args.sector c.requires.sector
    (subst (λ (k : ℕ). SameElsewhere m (size * k) size after) here c.erase.ensures.elsewhere)

pub returns-clause-done : goal.returns-clause-done
returns-clause-done g c =
    let size = g.D.SpareDevice.SECTOR_WORDS in
    let m = (g.D.MapDevice.state c.args.device.now).flash.words in
    let after = (g.D.MapDevice.state c.erase.new.self).flash.words in
    let map = (g.D.MapDevice.state c.args.device.now).map in
    let here : c.lies_at.result ≡ lies_in g.D.MapDevice.SECTORS g.D.MapDevice.SPARES map c.args.sector =
    c.lies_at.ensures.is
    ∙ lies_table g.D.MapDevice.SECTORS g.D.MapDevice.SPARES map _ c.requires.index c.args.sector
    c.requires.sector in
    erased_filled g.D.SpareDevice.SLOTS g.D.MapDevice.SECTORS g.D.SpareDevice.SECTOR_SLOTS size
    g.D.MapDevice.SPARES g.met.D.SpareDevice.sectors_fit m after map c.args.sector c.requires.sector
    (subst (λ (k : ℕ). SameElsewhere m (size * k) size after) here c.erase.ensures.elsewhere) BLANK
    (subst (λ (k : ℕ). AreFilled after (size * k) size BLANK) here c.in_ok-erase.ensures.done)
