use Rattle.std.proofs.Common.{◌≡◌, ◌*◌, ℕ, List, ap₂, inl, inr, subst, ⊎_elim, ◌∙◌, rules}
use Rattle.flash_device.specs.declared.flash.TheConstants.{BLANK}
use Rattle.flash_device.specs.FlashCalls.{AreFilled, SameElsewhere}
use Rattle.spare_units.specs.SpareFrames.{unit_list}
use Rattle.spare_sectors.specs.SparePlaces.{lies_in}
use Rattle.spare_sectors.specs.SpareStates.{Blames}
use Rattle.spare_sectors.specs.declared.map_device.SparePart.TheVariants.{Sector}
use Rattle.spare_sectors.specs.laws.SpareSteps.{lies_table, table_most}
use Rattle.spare_units.specs.laws.UnitCells.{erased_behind, erased_others, erased_units}
use Rattle.spare_units.proofs.spare_unit_calls.erase_frames.Goals as goal

pub lies_at-requires-clause-spare : goal.lies_at-requires-clause-spare
lies_at-requires-clause-spare g c =
    table_most g.D.MapDevice.SECTORS g.D.MapDevice.SPARES _ _ c.requires.index c.args.sector c.requires.sector

pub returns-in_err-erase-clause-elsewhere : goal.returns-in_err-erase-clause-elsewhere
returns-in_err-erase-clause-elsewhere g c =
    let size = 32 * g.D.SpareUnitDevice.SECTOR_FRAMES in
    let old = g.D.MapDevice.state c.args.device.now in
    let new = g.D.MapDevice.state c.erase.new.self in
    let here : c.lies_at.result ≡ lies_in g.D.MapDevice.SECTORS g.D.MapDevice.SPARES old.map c.args.sector =
    c.lies_at.ensures.is
    ∙ lies_table g.D.MapDevice.SECTORS g.D.MapDevice.SPARES old.map _ c.requires.index c.args.sector
    c.requires.sector in
    erased_others g.D.SpareUnitDevice.SLOTS g.D.MapDevice.SECTORS g.D.SpareUnitDevice.SECTOR_FRAMES
    g.D.MapDevice.SPARES g.met.D.SpareUnitDevice.sectors_fit old.flash.words new.flash.words
    old.map c.args.sector c.requires.sector
    (subst (λ (k : ℕ). SameElsewhere old.flash.words (size * k) size new.flash.words) here c.erase.ensures.elsewhere)

pub returns-in_err-erase-clause-others : goal.returns-in_err-erase-clause-others
returns-in_err-erase-clause-others g c =
    let size = 32 * g.D.SpareUnitDevice.SECTOR_FRAMES in
    let old = g.D.MapDevice.state c.args.device.now in
    let new = g.D.MapDevice.state c.erase.new.self in
    let here : c.lies_at.result ≡ lies_in g.D.MapDevice.SECTORS g.D.MapDevice.SPARES old.map c.args.sector =
    c.lies_at.ensures.is
    ∙ lies_table g.D.MapDevice.SECTORS g.D.MapDevice.SPARES old.map _ c.requires.index c.args.sector
    c.requires.sector in
    erased_others g.D.SpareUnitDevice.SLOTS g.D.MapDevice.SECTORS g.D.SpareUnitDevice.SECTOR_FRAMES
    g.D.MapDevice.SPARES g.met.D.SpareUnitDevice.sectors_fit old.programs new.programs
    old.map c.args.sector c.requires.sector
    (subst (λ (k : ℕ). SameElsewhere old.programs (size * k) size new.programs) here c.erase.ensures.others)

pub returns-in_err-erase-clause-counted : goal.returns-in_err-erase-clause-counted
returns-in_err-erase-clause-counted g c =
    let size = 32 * g.D.SpareUnitDevice.SECTOR_FRAMES in
    let old = g.D.MapDevice.state c.args.device.now in
    let new = g.D.MapDevice.state c.erase.new.self in
    let here : c.lies_at.result ≡ lies_in g.D.MapDevice.SECTORS g.D.MapDevice.SPARES old.map c.args.sector =
    c.lies_at.ensures.is
    ∙ lies_table g.D.MapDevice.SECTORS g.D.MapDevice.SPARES old.map _ c.requires.index c.args.sector
    c.requires.sector in
    let same = λ (m after : List ℕ) (kept : after ≡ m).
    ap₂ (λ (l map : List ℕ). unit_list g.D.SpareUnitDevice.SLOTS g.D.MapDevice.SECTORS g.D.SpareUnitDevice.SECTOR_FRAMES
    g.D.MapDevice.SPARES l map) kept c.erase.ensures.map in
    ⊎_elim
    (λ (begun : AreFilled new.programs (size * c.lies_at.result) size 0).
    record {
      is = inl (
          erased_behind g.D.SpareUnitDevice.SLOTS g.D.MapDevice.SECTORS g.D.SpareUnitDevice.SECTOR_FRAMES
          g.D.MapDevice.SPARES g.met.D.SpareUnitDevice.sectors_fit old.programs new.programs
          old.map c.args.sector c.requires.sector
          (subst (λ (k : ℕ). SameElsewhere old.programs (size * k) size new.programs) here c.erase.ensures.others)
          0 new.map c.erase.ensures.map
          (subst (λ (k : ℕ). AreFilled new.programs (size * k) size 0) here begun));
    })
    (λ (none : (new.flash.words ≡ old.flash.words) × (new.programs ≡ old.programs)).
    record { is = inr (same old.flash.words new.flash.words none.0, same old.programs new.programs none.1) })
    c.in_err-erase.ensures.failed.is

pub returns-clause-elsewhere : goal.returns-clause-elsewhere
returns-clause-elsewhere g c =
    let size = 32 * g.D.SpareUnitDevice.SECTOR_FRAMES in
    let old = g.D.MapDevice.state c.args.device.now in
    let new = g.D.MapDevice.state c.erase.new.self in
    let here : c.lies_at.result ≡ lies_in g.D.MapDevice.SECTORS g.D.MapDevice.SPARES old.map c.args.sector =
    c.lies_at.ensures.is
    ∙ lies_table g.D.MapDevice.SECTORS g.D.MapDevice.SPARES old.map _ c.requires.index c.args.sector
    c.requires.sector in
    erased_others g.D.SpareUnitDevice.SLOTS g.D.MapDevice.SECTORS g.D.SpareUnitDevice.SECTOR_FRAMES
    g.D.MapDevice.SPARES g.met.D.SpareUnitDevice.sectors_fit old.flash.words new.flash.words
    old.map c.args.sector c.requires.sector
    (subst (λ (k : ℕ). SameElsewhere old.flash.words (size * k) size new.flash.words) here c.erase.ensures.elsewhere)

pub returns-clause-others : goal.returns-clause-others
returns-clause-others g c =
    let size = 32 * g.D.SpareUnitDevice.SECTOR_FRAMES in
    let old = g.D.MapDevice.state c.args.device.now in
    let new = g.D.MapDevice.state c.erase.new.self in
    let here : c.lies_at.result ≡ lies_in g.D.MapDevice.SECTORS g.D.MapDevice.SPARES old.map c.args.sector =
    c.lies_at.ensures.is
    ∙ lies_table g.D.MapDevice.SECTORS g.D.MapDevice.SPARES old.map _ c.requires.index c.args.sector
    c.requires.sector in
    erased_others g.D.SpareUnitDevice.SLOTS g.D.MapDevice.SECTORS g.D.SpareUnitDevice.SECTOR_FRAMES
    g.D.MapDevice.SPARES g.met.D.SpareUnitDevice.sectors_fit old.programs new.programs
    old.map c.args.sector c.requires.sector
    (subst (λ (k : ℕ). SameElsewhere old.programs (size * k) size new.programs) here c.erase.ensures.others)

pub returns-clause-counted : goal.returns-clause-counted
returns-clause-counted g c =
    let size = 32 * g.D.SpareUnitDevice.SECTOR_FRAMES in
    let old = g.D.MapDevice.state c.args.device.now in
    let new = g.D.MapDevice.state c.erase.new.self in
    let here : c.lies_at.result ≡ lies_in g.D.MapDevice.SECTORS g.D.MapDevice.SPARES old.map c.args.sector =
    c.lies_at.ensures.is
    ∙ lies_table g.D.MapDevice.SECTORS g.D.MapDevice.SPARES old.map _ c.requires.index c.args.sector
    c.requires.sector in
    record {
      is = inl (
          erased_behind g.D.SpareUnitDevice.SLOTS g.D.MapDevice.SECTORS g.D.SpareUnitDevice.SECTOR_FRAMES
          g.D.MapDevice.SPARES g.met.D.SpareUnitDevice.sectors_fit old.programs new.programs
          old.map c.args.sector c.requires.sector
          (subst (λ (k : ℕ). SameElsewhere old.programs (size * k) size new.programs) here c.erase.ensures.others)
          0 new.map c.erase.ensures.map
          (subst (λ (k : ℕ). AreFilled new.programs (size * k) size 0) here c.in_ok-erase.ensures.counted));
    }

pub returns-in_err-erase-clause-blames : goal.returns-in_err-erase-clause-blames
returns-in_err-erase-clause-blames g c =
    let old = g.D.MapDevice.state c.args.device.now in
    let new = g.D.MapDevice.state c.erase.new.self in
    let here : c.lies_at.result ≡ lies_in g.D.MapDevice.SECTORS g.D.MapDevice.SPARES old.map c.args.sector =
    c.lies_at.ensures.is
    ∙ lies_table g.D.MapDevice.SECTORS g.D.MapDevice.SPARES old.map _ c.requires.index c.args.sector
    c.requires.sector in
    let told = subst (λ (k : ℕ). Blames (Sector k) old new c.erase.result) here c.erase.ensures.blames in
    search (rules, told)

pub returns-clause-done : goal.returns-clause-done
returns-clause-done g c =
    let size = 32 * g.D.SpareUnitDevice.SECTOR_FRAMES in
    let old = g.D.MapDevice.state c.args.device.now in
    let new = g.D.MapDevice.state c.erase.new.self in
    let here : c.lies_at.result ≡ lies_in g.D.MapDevice.SECTORS g.D.MapDevice.SPARES old.map c.args.sector =
    c.lies_at.ensures.is
    ∙ lies_table g.D.MapDevice.SECTORS g.D.MapDevice.SPARES old.map _ c.requires.index c.args.sector
    c.requires.sector in
    erased_units g.D.SpareUnitDevice.SLOTS g.D.MapDevice.SECTORS g.D.SpareUnitDevice.SECTOR_FRAMES
    g.D.MapDevice.SPARES g.met.D.SpareUnitDevice.sectors_fit old.flash.words new.flash.words
    old.map c.args.sector c.requires.sector
    (subst (λ (k : ℕ). SameElsewhere old.flash.words (size * k) size new.flash.words) here c.erase.ensures.elsewhere)
    BLANK
    (subst (λ (k : ℕ). AreFilled new.flash.words (size * k) size BLANK) here c.in_ok-erase.ensures.done)
