use Rattle.std.proofs.Common.{◌≡◌, ◌+◌, ◌*◌, ℕ, suc, List, refl, sym, subst, ap, inl, inr, ⊎_elim, ◌∙◌, arith}
use Rattle.flash_device.specs.declared.flash.TheConstants.{BLANK}
use Rattle.flash_device.specs.FlashCalls.{AreFilled, SameElsewhere}
use Rattle.flash_device.specs.FlashLogs.{find, slot_of}
use Rattle.flash_device.specs.PageTables.{AreFree, IsPageTable}
use Rattle.flash_device.specs.laws.Marks.{elsewhere_none}
use Rattle.spare_sectors.specs.SpareMaps.{MovesOnly}
use Rattle.spare_sectors.specs.laws.SpareImages.{lies_spare}
use Rattle.spare_sectors.specs.laws.SpareSteps.{index_moved}
use Rattle.spare_sectors.specs.laws.SpareTurns.{mark_blank, mark_either, mark_found, mark_leaves, mark_moves}
use Rattle.spare_sectors.specs.laws.SpareTurns.{number_keeps, number_leaves, number_moves}
use Rattle.spare_units.specs.laws.UnitCells.{kept_units, no_error, none_moves, taken_others}
use Rattle.spare_units.specs.laws.UnitCells.{taken_units}
use Rattle.spare_units.proofs.spare_unit_calls.take_spare.Goals as goal

pub returns-in_err-put_number-clause-free : goal.returns-in_err-put_number-clause-free
returns-in_err-put_number-clause-free g c =
    number_leaves g.D.MapDevice.SPARES c.args.entry c.args.sector (slot_of 0 c.args.entry) _ _ c.requires.below
    c.requires.free refl c.put_number.ensures.number

pub returns-in_err-put_number-clause-elsewhere : goal.returns-in_err-put_number-clause-elsewhere
returns-in_err-put_number-clause-elsewhere g c =
    let size = 32 * g.D.SpareUnitDevice.SECTOR_FRAMES in
    let old = g.D.MapDevice.state c.args.device.now in
    let one = g.D.MapDevice.state c.put_number.new.device in
    let moves : MovesOnly g.D.MapDevice.SPARES old.map c.args.sector one.map =
    number_moves g.D.MapDevice.SPARES c.args.entry c.args.sector (slot_of 0 c.args.entry) _ _ c.requires.below
    c.requires.free refl c.put_number.ensures.number in
    taken_others g.D.SpareUnitDevice.SLOTS g.D.MapDevice.SECTORS g.D.SpareUnitDevice.SECTOR_FRAMES
    g.D.MapDevice.SPARES g.met.D.SpareUnitDevice.sectors_fit old.flash.words one.flash.words
    old.map one.map c.args.sector c.args.entry c.requires.sector c.requires.below c.requires.free
    (elsewhere_none old.flash.words one.flash.words (size * (2 * g.D.MapDevice.SECTORS + 1 + c.args.entry)) size
    c.put_number.ensures.words)
    moves

pub returns-in_err-put_number-clause-others : goal.returns-in_err-put_number-clause-others
returns-in_err-put_number-clause-others g c =
    let size = 32 * g.D.SpareUnitDevice.SECTOR_FRAMES in
    let old = g.D.MapDevice.state c.args.device.now in
    let one = g.D.MapDevice.state c.put_number.new.device in
    let moves : MovesOnly g.D.MapDevice.SPARES old.map c.args.sector one.map =
    number_moves g.D.MapDevice.SPARES c.args.entry c.args.sector (slot_of 0 c.args.entry) _ _ c.requires.below
    c.requires.free refl c.put_number.ensures.number in
    taken_others g.D.SpareUnitDevice.SLOTS g.D.MapDevice.SECTORS g.D.SpareUnitDevice.SECTOR_FRAMES
    g.D.MapDevice.SPARES g.met.D.SpareUnitDevice.sectors_fit old.programs one.programs
    old.map one.map c.args.sector c.args.entry c.requires.sector c.requires.below c.requires.free
    (elsewhere_none old.programs one.programs (size * (2 * g.D.MapDevice.SECTORS + 1 + c.args.entry)) size
    c.put_number.ensures.programs)
    moves

pub returns-in_err-put_number-clause-counted : goal.returns-in_err-put_number-clause-counted
returns-in_err-put_number-clause-counted g c =
    let size = 32 * g.D.SpareUnitDevice.SECTOR_FRAMES in
    let old = g.D.MapDevice.state c.args.device.now in
    let one = g.D.MapDevice.state c.put_number.new.device in
    let keeps = number_keeps g.D.MapDevice.SPARES c.args.entry c.args.sector (slot_of 0 c.args.entry) _ _
    c.requires.below c.requires.free refl c.put_number.ensures.number in
    record {
      is = inr (
        kept_units g.D.SpareUnitDevice.SLOTS g.D.MapDevice.SECTORS g.D.SpareUnitDevice.SECTOR_FRAMES
            g.D.MapDevice.SPARES g.met.D.SpareUnitDevice.sectors_fit old.flash.words one.flash.words
            old.map one.map c.args.sector c.args.entry c.requires.sector c.requires.below c.requires.free
            (elsewhere_none old.flash.words one.flash.words (size * (2 * g.D.MapDevice.SECTORS + 1 + c.args.entry)) size
            c.put_number.ensures.words)
            keeps,
        kept_units g.D.SpareUnitDevice.SLOTS g.D.MapDevice.SECTORS g.D.SpareUnitDevice.SECTOR_FRAMES
            g.D.MapDevice.SPARES g.met.D.SpareUnitDevice.sectors_fit old.programs one.programs
            old.map one.map c.args.sector c.args.entry c.requires.sector c.requires.below c.requires.free
            (elsewhere_none old.programs one.programs (size * (2 * g.D.MapDevice.SECTORS + 1 + c.args.entry)) size
            c.put_number.ensures.programs)
            keeps,
      );
    }

pub returns-in_err-erase-clause-free : goal.returns-in_err-erase-clause-free
returns-in_err-erase-clause-free g c =
    let size = 32 * g.D.SpareUnitDevice.SECTOR_FRAMES in
    let old = g.D.MapDevice.state c.args.device.now in
    let one = g.D.MapDevice.state c.put_number.new.device in
    let two = g.D.MapDevice.state c.erase.new.self in
    let leaves : AreFree one.map 0 (c.args.entry + 1) g.D.MapDevice.SPARES =
    number_leaves g.D.MapDevice.SPARES c.args.entry c.args.sector (slot_of 0 c.args.entry) _ _ c.requires.below
    c.requires.free refl c.put_number.ensures.number in
    subst (λ (l : List ℕ). AreFree l 0 (c.args.entry + 1) g.D.MapDevice.SPARES) (sym c.erase.ensures.map) leaves

pub returns-in_err-erase-clause-elsewhere : goal.returns-in_err-erase-clause-elsewhere
returns-in_err-erase-clause-elsewhere g c =
    let size = 32 * g.D.SpareUnitDevice.SECTOR_FRAMES in
    let old = g.D.MapDevice.state c.args.device.now in
    let one = g.D.MapDevice.state c.put_number.new.device in
    let two = g.D.MapDevice.state c.erase.new.self in
    let moves : MovesOnly g.D.MapDevice.SPARES old.map c.args.sector one.map =
    number_moves g.D.MapDevice.SPARES c.args.entry c.args.sector (slot_of 0 c.args.entry) _ _ c.requires.below
    c.requires.free refl c.put_number.ensures.number in
    let moves_2 : MovesOnly g.D.MapDevice.SPARES old.map c.args.sector two.map =
    subst (λ (l : List ℕ). MovesOnly g.D.MapDevice.SPARES old.map c.args.sector l) (sym c.erase.ensures.map) moves in
    let change : SameElsewhere old.flash.words (size * (2 * g.D.MapDevice.SECTORS + 1 + c.args.entry)) size
    two.flash.words =
    subst (λ (l : List ℕ). SameElsewhere l (size * (2 * g.D.MapDevice.SECTORS + 1 + c.args.entry)) size
    two.flash.words)
    c.put_number.ensures.words
    (subst (λ (k : ℕ). SameElsewhere one.flash.words (size * (2 * k + 1 + c.args.entry)) size two.flash.words)
    c.SECTORS.ensures c.erase.ensures.elsewhere) in
    taken_others g.D.SpareUnitDevice.SLOTS g.D.MapDevice.SECTORS g.D.SpareUnitDevice.SECTOR_FRAMES
    g.D.MapDevice.SPARES g.met.D.SpareUnitDevice.sectors_fit old.flash.words two.flash.words
    old.map two.map c.args.sector c.args.entry c.requires.sector c.requires.below c.requires.free
    change moves_2

pub returns-in_err-erase-clause-others : goal.returns-in_err-erase-clause-others
returns-in_err-erase-clause-others g c =
    let size = 32 * g.D.SpareUnitDevice.SECTOR_FRAMES in
    let old = g.D.MapDevice.state c.args.device.now in
    let one = g.D.MapDevice.state c.put_number.new.device in
    let two = g.D.MapDevice.state c.erase.new.self in
    let moves : MovesOnly g.D.MapDevice.SPARES old.map c.args.sector one.map =
    number_moves g.D.MapDevice.SPARES c.args.entry c.args.sector (slot_of 0 c.args.entry) _ _ c.requires.below
    c.requires.free refl c.put_number.ensures.number in
    let moves_2 : MovesOnly g.D.MapDevice.SPARES old.map c.args.sector two.map =
    subst (λ (l : List ℕ). MovesOnly g.D.MapDevice.SPARES old.map c.args.sector l) (sym c.erase.ensures.map) moves in
    let change : SameElsewhere old.programs (size * (2 * g.D.MapDevice.SECTORS + 1 + c.args.entry)) size two.programs =
    subst (λ (l : List ℕ). SameElsewhere l (size * (2 * g.D.MapDevice.SECTORS + 1 + c.args.entry)) size two.programs)
    c.put_number.ensures.programs
    (subst (λ (k : ℕ). SameElsewhere one.programs (size * (2 * k + 1 + c.args.entry)) size two.programs)
    c.SECTORS.ensures c.erase.ensures.others) in
    taken_others g.D.SpareUnitDevice.SLOTS g.D.MapDevice.SECTORS g.D.SpareUnitDevice.SECTOR_FRAMES
    g.D.MapDevice.SPARES g.met.D.SpareUnitDevice.sectors_fit old.programs two.programs
    old.map two.map c.args.sector c.args.entry c.requires.sector c.requires.below c.requires.free
    change moves_2

pub returns-in_err-erase-clause-counted : goal.returns-in_err-erase-clause-counted
returns-in_err-erase-clause-counted g c =
    let size = 32 * g.D.SpareUnitDevice.SECTOR_FRAMES in
    let old = g.D.MapDevice.state c.args.device.now in
    let one = g.D.MapDevice.state c.put_number.new.device in
    let two = g.D.MapDevice.state c.erase.new.self in
    let words : SameElsewhere old.flash.words (size * (2 * g.D.MapDevice.SECTORS + 1 + c.args.entry)) size
    two.flash.words =
    subst (λ (l : List ℕ). SameElsewhere l (size * (2 * g.D.MapDevice.SECTORS + 1 + c.args.entry)) size
    two.flash.words)
    c.put_number.ensures.words
    (subst (λ (k : ℕ). SameElsewhere one.flash.words (size * (2 * k + 1 + c.args.entry)) size two.flash.words)
    c.SECTORS.ensures c.erase.ensures.elsewhere) in
    let programs : SameElsewhere old.programs (size * (2 * g.D.MapDevice.SECTORS + 1 + c.args.entry)) size
    two.programs =
    subst (λ (l : List ℕ). SameElsewhere l (size * (2 * g.D.MapDevice.SECTORS + 1 + c.args.entry)) size two.programs)
    c.put_number.ensures.programs
    (subst (λ (k : ℕ). SameElsewhere one.programs (size * (2 * k + 1 + c.args.entry)) size two.programs)
    c.SECTORS.ensures c.erase.ensures.others) in
    let keeps = λ (t : ℕ). ap (λ (l : List ℕ). find l 0 g.D.MapDevice.SPARES t) c.erase.ensures.map
    ∙ number_keeps g.D.MapDevice.SPARES c.args.entry c.args.sector (slot_of 0 c.args.entry) _ _ c.requires.below
    c.requires.free refl c.put_number.ensures.number t in
    record {
      is = inr (
        kept_units g.D.SpareUnitDevice.SLOTS g.D.MapDevice.SECTORS g.D.SpareUnitDevice.SECTOR_FRAMES
            g.D.MapDevice.SPARES g.met.D.SpareUnitDevice.sectors_fit old.flash.words two.flash.words
            old.map two.map c.args.sector c.args.entry c.requires.sector c.requires.below c.requires.free
            words keeps,
        kept_units g.D.SpareUnitDevice.SLOTS g.D.MapDevice.SECTORS g.D.SpareUnitDevice.SECTOR_FRAMES
            g.D.MapDevice.SPARES g.met.D.SpareUnitDevice.sectors_fit old.programs two.programs
            old.map two.map c.args.sector c.args.entry c.requires.sector c.requires.below c.requires.free
            programs keeps,
      );
    }

pub put_mark-requires-clause-blank : goal.put_mark-requires-clause-blank
put_mark-requires-clause-blank g c =
    let size = 32 * g.D.SpareUnitDevice.SECTOR_FRAMES in
    let old = g.D.MapDevice.state c.args.device.now in
    let one = g.D.MapDevice.state c.put_number.new.device in
    let two = g.D.MapDevice.state c.erase.new.self in
    let blank : AreFilled one.map (slot_of 0 c.args.entry + 18) 2 BLANK =
    mark_blank g.D.MapDevice.SPARES c.args.entry c.args.sector (slot_of 0 c.args.entry) _ _ c.requires.below
    c.requires.free refl c.put_number.ensures.number in
    subst (λ (l : List ℕ). AreFilled l (slot_of 0 c.args.entry + 18) 2 BLANK) (sym c.erase.ensures.map) blank

pub returns-in_err-put_mark-clause-free : goal.returns-in_err-put_mark-clause-free
returns-in_err-put_mark-clause-free g c =
    let old = g.D.MapDevice.state c.args.device.now in
    let one = g.D.MapDevice.state c.put_number.new.device in
    let two = g.D.MapDevice.state c.erase.new.self in
    let new = g.D.MapDevice.state c.put_mark.new.device in
    let mark : SameElsewhere one.map (slot_of 0 c.args.entry + 18) 2 new.map =
    subst (λ (l : List ℕ). SameElsewhere l (slot_of 0 c.args.entry + 18) 2 new.map) c.erase.ensures.map
    c.put_mark.ensures.mark in
    mark_leaves g.D.MapDevice.SPARES c.args.entry c.args.sector (slot_of 0 c.args.entry) _ _ c.requires.below
    c.requires.free refl c.put_number.ensures.number
    new.map c.in_ok-put_number.ensures.names mark

pub returns-in_err-put_mark-clause-elsewhere : goal.returns-in_err-put_mark-clause-elsewhere
returns-in_err-put_mark-clause-elsewhere g c =
    let size = 32 * g.D.SpareUnitDevice.SECTOR_FRAMES in
    let old = g.D.MapDevice.state c.args.device.now in
    let one = g.D.MapDevice.state c.put_number.new.device in
    let two = g.D.MapDevice.state c.erase.new.self in
    let new = g.D.MapDevice.state c.put_mark.new.device in
    let mark : SameElsewhere one.map (slot_of 0 c.args.entry + 18) 2 new.map =
    subst (λ (l : List ℕ). SameElsewhere l (slot_of 0 c.args.entry + 18) 2 new.map) c.erase.ensures.map
    c.put_mark.ensures.mark in
    let change : SameElsewhere old.flash.words (size * (2 * g.D.MapDevice.SECTORS + 1 + c.args.entry)) size
    two.flash.words =
    subst (λ (l : List ℕ). SameElsewhere l (size * (2 * g.D.MapDevice.SECTORS + 1 + c.args.entry)) size
    two.flash.words)
    c.put_number.ensures.words
    (subst (λ (k : ℕ). SameElsewhere one.flash.words (size * (2 * k + 1 + c.args.entry)) size two.flash.words)
    c.SECTORS.ensures c.erase.ensures.elsewhere) in
    let change_3 : SameElsewhere old.flash.words (size * (2 * g.D.MapDevice.SECTORS + 1 + c.args.entry)) size
    new.flash.words =
    subst (λ (l : List ℕ). SameElsewhere old.flash.words (size * (2 * g.D.MapDevice.SECTORS + 1 + c.args.entry)) size
    l)
    (sym c.put_mark.ensures.words) change in
    taken_others g.D.SpareUnitDevice.SLOTS g.D.MapDevice.SECTORS g.D.SpareUnitDevice.SECTOR_FRAMES
    g.D.MapDevice.SPARES g.met.D.SpareUnitDevice.sectors_fit old.flash.words new.flash.words
    old.map new.map c.args.sector c.args.entry c.requires.sector c.requires.below c.requires.free
    change_3
    (mark_moves g.D.MapDevice.SPARES c.args.entry c.args.sector (slot_of 0 c.args.entry) _ _ c.requires.below
    c.requires.free refl c.put_number.ensures.number
    new.map c.in_ok-put_number.ensures.names mark)

pub returns-in_err-put_mark-clause-others : goal.returns-in_err-put_mark-clause-others
returns-in_err-put_mark-clause-others g c =
    let size = 32 * g.D.SpareUnitDevice.SECTOR_FRAMES in
    let old = g.D.MapDevice.state c.args.device.now in
    let one = g.D.MapDevice.state c.put_number.new.device in
    let two = g.D.MapDevice.state c.erase.new.self in
    let new = g.D.MapDevice.state c.put_mark.new.device in
    let mark : SameElsewhere one.map (slot_of 0 c.args.entry + 18) 2 new.map =
    subst (λ (l : List ℕ). SameElsewhere l (slot_of 0 c.args.entry + 18) 2 new.map) c.erase.ensures.map
    c.put_mark.ensures.mark in
    let change : SameElsewhere old.programs (size * (2 * g.D.MapDevice.SECTORS + 1 + c.args.entry)) size two.programs =
    subst (λ (l : List ℕ). SameElsewhere l (size * (2 * g.D.MapDevice.SECTORS + 1 + c.args.entry)) size two.programs)
    c.put_number.ensures.programs
    (subst (λ (k : ℕ). SameElsewhere one.programs (size * (2 * k + 1 + c.args.entry)) size two.programs)
    c.SECTORS.ensures c.erase.ensures.others) in
    let change_3 : SameElsewhere old.programs (size * (2 * g.D.MapDevice.SECTORS + 1 + c.args.entry)) size
    new.programs =
    subst (λ (l : List ℕ). SameElsewhere old.programs (size * (2 * g.D.MapDevice.SECTORS + 1 + c.args.entry)) size l)
    (sym c.put_mark.ensures.programs) change in
    taken_others g.D.SpareUnitDevice.SLOTS g.D.MapDevice.SECTORS g.D.SpareUnitDevice.SECTOR_FRAMES
    g.D.MapDevice.SPARES g.met.D.SpareUnitDevice.sectors_fit old.programs new.programs
    old.map new.map c.args.sector c.args.entry c.requires.sector c.requires.below c.requires.free
    change_3
    (mark_moves g.D.MapDevice.SPARES c.args.entry c.args.sector (slot_of 0 c.args.entry) _ _ c.requires.below
    c.requires.free refl c.put_number.ensures.number
    new.map c.in_ok-put_number.ensures.names mark)

pub returns-in_err-put_mark-clause-counted : goal.returns-in_err-put_mark-clause-counted
returns-in_err-put_mark-clause-counted g c =
    let size = 32 * g.D.SpareUnitDevice.SECTOR_FRAMES in
    let old = g.D.MapDevice.state c.args.device.now in
    let one = g.D.MapDevice.state c.put_number.new.device in
    let two = g.D.MapDevice.state c.erase.new.self in
    let new = g.D.MapDevice.state c.put_mark.new.device in
    let mark : SameElsewhere one.map (slot_of 0 c.args.entry + 18) 2 new.map =
    subst (λ (l : List ℕ). SameElsewhere l (slot_of 0 c.args.entry + 18) 2 new.map) c.erase.ensures.map
    c.put_mark.ensures.mark in
    let words : SameElsewhere old.flash.words (size * (2 * g.D.MapDevice.SECTORS + 1 + c.args.entry)) size
    two.flash.words =
    subst (λ (l : List ℕ). SameElsewhere l (size * (2 * g.D.MapDevice.SECTORS + 1 + c.args.entry)) size
    two.flash.words)
    c.put_number.ensures.words
    (subst (λ (k : ℕ). SameElsewhere one.flash.words (size * (2 * k + 1 + c.args.entry)) size two.flash.words)
    c.SECTORS.ensures c.erase.ensures.elsewhere) in
    let words_3 : SameElsewhere old.flash.words (size * (2 * g.D.MapDevice.SECTORS + 1 + c.args.entry)) size
    new.flash.words =
    subst (λ (l : List ℕ). SameElsewhere old.flash.words (size * (2 * g.D.MapDevice.SECTORS + 1 + c.args.entry)) size
    l)
    (sym c.put_mark.ensures.words) words in
    let programs : SameElsewhere old.programs (size * (2 * g.D.MapDevice.SECTORS + 1 + c.args.entry)) size
    two.programs =
    subst (λ (l : List ℕ). SameElsewhere l (size * (2 * g.D.MapDevice.SECTORS + 1 + c.args.entry)) size two.programs)
    c.put_number.ensures.programs
    (subst (λ (k : ℕ). SameElsewhere one.programs (size * (2 * k + 1 + c.args.entry)) size two.programs)
    c.SECTORS.ensures c.erase.ensures.others) in
    let programs_3 : SameElsewhere old.programs (size * (2 * g.D.MapDevice.SECTORS + 1 + c.args.entry)) size
    new.programs =
    subst (λ (l : List ℕ). SameElsewhere old.programs (size * (2 * g.D.MapDevice.SECTORS + 1 + c.args.entry)) size l)
    (sym c.put_mark.ensures.programs) programs in
    let filled : AreFilled new.programs (size * (2 * g.D.MapDevice.SECTORS + 1 + c.args.entry)) size 0 =
    subst (λ (l : List ℕ). AreFilled l (size * (2 * g.D.MapDevice.SECTORS + 1 + c.args.entry)) size 0)
    (sym c.put_mark.ensures.programs)
    (subst (λ (k : ℕ). AreFilled two.programs (size * (2 * k + 1 + c.args.entry)) size 0)
    c.SECTORS.ensures c.in_ok-erase.ensures.counted) in
    ⊎_elim
    (λ (kept : find new.map 0 g.D.MapDevice.SPARES c.args.sector ≡ find old.map 0 g.D.MapDevice.SPARES c.args.sector).
    let keeps = none_moves g.D.MapDevice.SPARES old.map c.args.sector new.map
    (mark_moves g.D.MapDevice.SPARES c.args.entry c.args.sector (slot_of 0 c.args.entry) _ _ c.requires.below
    c.requires.free refl c.put_number.ensures.number
    new.map c.in_ok-put_number.ensures.names mark)
    kept in
    record {
      is = inr (
        kept_units g.D.SpareUnitDevice.SLOTS g.D.MapDevice.SECTORS g.D.SpareUnitDevice.SECTOR_FRAMES
            g.D.MapDevice.SPARES g.met.D.SpareUnitDevice.sectors_fit old.flash.words new.flash.words
            old.map new.map c.args.sector c.args.entry c.requires.sector c.requires.below c.requires.free
            words_3 keeps,
        kept_units g.D.SpareUnitDevice.SLOTS g.D.MapDevice.SECTORS g.D.SpareUnitDevice.SECTOR_FRAMES
            g.D.MapDevice.SPARES g.met.D.SpareUnitDevice.sectors_fit old.programs new.programs
            old.map new.map c.args.sector c.args.entry c.requires.sector c.requires.below c.requires.free
            programs_3 keeps,
      );
    })
    (λ (found : find new.map 0 g.D.MapDevice.SPARES c.args.sector ≡ c.args.entry + 1).
    record {
      is = inl (
          taken_units g.D.SpareUnitDevice.SLOTS g.D.MapDevice.SECTORS g.D.SpareUnitDevice.SECTOR_FRAMES
          g.D.MapDevice.SPARES g.met.D.SpareUnitDevice.sectors_fit old.programs new.programs
          old.map new.map c.args.sector c.args.entry c.requires.sector c.requires.below c.requires.free
          programs_3 0 found filled);
    })
    (mark_either g.D.MapDevice.SPARES c.args.entry c.args.sector (slot_of 0 c.args.entry) _ _ c.requires.below
    c.requires.free refl c.put_number.ensures.number
    new.map c.in_ok-put_number.ensures.names mark)

pub returns-clause-free : goal.returns-clause-free
returns-clause-free g c =
    let old = g.D.MapDevice.state c.args.device.now in
    let one = g.D.MapDevice.state c.put_number.new.device in
    let two = g.D.MapDevice.state c.erase.new.self in
    let new = g.D.MapDevice.state c.put_mark.new.device in
    let mark : SameElsewhere one.map (slot_of 0 c.args.entry + 18) 2 new.map =
    subst (λ (l : List ℕ). SameElsewhere l (slot_of 0 c.args.entry + 18) 2 new.map) c.erase.ensures.map
    c.put_mark.ensures.mark in
    mark_leaves g.D.MapDevice.SPARES c.args.entry c.args.sector (slot_of 0 c.args.entry) _ _ c.requires.below
    c.requires.free refl c.put_number.ensures.number
    new.map c.in_ok-put_number.ensures.names mark

pub returns-clause-elsewhere : goal.returns-clause-elsewhere
returns-clause-elsewhere g c =
    let size = 32 * g.D.SpareUnitDevice.SECTOR_FRAMES in
    let old = g.D.MapDevice.state c.args.device.now in
    let one = g.D.MapDevice.state c.put_number.new.device in
    let two = g.D.MapDevice.state c.erase.new.self in
    let new = g.D.MapDevice.state c.put_mark.new.device in
    let mark : SameElsewhere one.map (slot_of 0 c.args.entry + 18) 2 new.map =
    subst (λ (l : List ℕ). SameElsewhere l (slot_of 0 c.args.entry + 18) 2 new.map) c.erase.ensures.map
    c.put_mark.ensures.mark in
    let change : SameElsewhere old.flash.words (size * (2 * g.D.MapDevice.SECTORS + 1 + c.args.entry)) size
    two.flash.words =
    subst (λ (l : List ℕ). SameElsewhere l (size * (2 * g.D.MapDevice.SECTORS + 1 + c.args.entry)) size
    two.flash.words)
    c.put_number.ensures.words
    (subst (λ (k : ℕ). SameElsewhere one.flash.words (size * (2 * k + 1 + c.args.entry)) size two.flash.words)
    c.SECTORS.ensures c.erase.ensures.elsewhere) in
    let change_3 : SameElsewhere old.flash.words (size * (2 * g.D.MapDevice.SECTORS + 1 + c.args.entry)) size
    new.flash.words =
    subst (λ (l : List ℕ). SameElsewhere old.flash.words (size * (2 * g.D.MapDevice.SECTORS + 1 + c.args.entry)) size
    l)
    (sym c.put_mark.ensures.words) change in
    taken_others g.D.SpareUnitDevice.SLOTS g.D.MapDevice.SECTORS g.D.SpareUnitDevice.SECTOR_FRAMES
    g.D.MapDevice.SPARES g.met.D.SpareUnitDevice.sectors_fit old.flash.words new.flash.words
    old.map new.map c.args.sector c.args.entry c.requires.sector c.requires.below c.requires.free
    change_3
    (mark_moves g.D.MapDevice.SPARES c.args.entry c.args.sector (slot_of 0 c.args.entry) _ _ c.requires.below
    c.requires.free refl c.put_number.ensures.number
    new.map c.in_ok-put_number.ensures.names mark)

pub returns-clause-others : goal.returns-clause-others
returns-clause-others g c =
    let size = 32 * g.D.SpareUnitDevice.SECTOR_FRAMES in
    let old = g.D.MapDevice.state c.args.device.now in
    let one = g.D.MapDevice.state c.put_number.new.device in
    let two = g.D.MapDevice.state c.erase.new.self in
    let new = g.D.MapDevice.state c.put_mark.new.device in
    let mark : SameElsewhere one.map (slot_of 0 c.args.entry + 18) 2 new.map =
    subst (λ (l : List ℕ). SameElsewhere l (slot_of 0 c.args.entry + 18) 2 new.map) c.erase.ensures.map
    c.put_mark.ensures.mark in
    let change : SameElsewhere old.programs (size * (2 * g.D.MapDevice.SECTORS + 1 + c.args.entry)) size two.programs =
    subst (λ (l : List ℕ). SameElsewhere l (size * (2 * g.D.MapDevice.SECTORS + 1 + c.args.entry)) size two.programs)
    c.put_number.ensures.programs
    (subst (λ (k : ℕ). SameElsewhere one.programs (size * (2 * k + 1 + c.args.entry)) size two.programs)
    c.SECTORS.ensures c.erase.ensures.others) in
    let change_3 : SameElsewhere old.programs (size * (2 * g.D.MapDevice.SECTORS + 1 + c.args.entry)) size
    new.programs =
    subst (λ (l : List ℕ). SameElsewhere old.programs (size * (2 * g.D.MapDevice.SECTORS + 1 + c.args.entry)) size l)
    (sym c.put_mark.ensures.programs) change in
    taken_others g.D.SpareUnitDevice.SLOTS g.D.MapDevice.SECTORS g.D.SpareUnitDevice.SECTOR_FRAMES
    g.D.MapDevice.SPARES g.met.D.SpareUnitDevice.sectors_fit old.programs new.programs
    old.map new.map c.args.sector c.args.entry c.requires.sector c.requires.below c.requires.free
    change_3
    (mark_moves g.D.MapDevice.SPARES c.args.entry c.args.sector (slot_of 0 c.args.entry) _ _ c.requires.below
    c.requires.free refl c.put_number.ensures.number
    new.map c.in_ok-put_number.ensures.names mark)

pub returns-clause-counted : goal.returns-clause-counted
returns-clause-counted g c =
    let size = 32 * g.D.SpareUnitDevice.SECTOR_FRAMES in
    let old = g.D.MapDevice.state c.args.device.now in
    let one = g.D.MapDevice.state c.put_number.new.device in
    let two = g.D.MapDevice.state c.erase.new.self in
    let new = g.D.MapDevice.state c.put_mark.new.device in
    let mark : SameElsewhere one.map (slot_of 0 c.args.entry + 18) 2 new.map =
    subst (λ (l : List ℕ). SameElsewhere l (slot_of 0 c.args.entry + 18) 2 new.map) c.erase.ensures.map
    c.put_mark.ensures.mark in
    let programs : SameElsewhere old.programs (size * (2 * g.D.MapDevice.SECTORS + 1 + c.args.entry)) size
    two.programs =
    subst (λ (l : List ℕ). SameElsewhere l (size * (2 * g.D.MapDevice.SECTORS + 1 + c.args.entry)) size two.programs)
    c.put_number.ensures.programs
    (subst (λ (k : ℕ). SameElsewhere one.programs (size * (2 * k + 1 + c.args.entry)) size two.programs)
    c.SECTORS.ensures c.erase.ensures.others) in
    let programs_3 : SameElsewhere old.programs (size * (2 * g.D.MapDevice.SECTORS + 1 + c.args.entry)) size
    new.programs =
    subst (λ (l : List ℕ). SameElsewhere old.programs (size * (2 * g.D.MapDevice.SECTORS + 1 + c.args.entry)) size l)
    (sym c.put_mark.ensures.programs) programs in
    let filled : AreFilled new.programs (size * (2 * g.D.MapDevice.SECTORS + 1 + c.args.entry)) size 0 =
    subst (λ (l : List ℕ). AreFilled l (size * (2 * g.D.MapDevice.SECTORS + 1 + c.args.entry)) size 0)
    (sym c.put_mark.ensures.programs)
    (subst (λ (k : ℕ). AreFilled two.programs (size * (2 * k + 1 + c.args.entry)) size 0)
    c.SECTORS.ensures c.in_ok-erase.ensures.counted) in
    let found : find new.map 0 g.D.MapDevice.SPARES c.args.sector ≡ c.args.entry + 1 =
    mark_found g.D.MapDevice.SPARES c.args.entry c.args.sector (slot_of 0 c.args.entry) _ _ c.requires.below
    c.requires.free refl c.put_number.ensures.number
    new.map c.in_ok-put_number.ensures.names mark c.in_ok-put_mark.ensures.marked in
    record {
      is = inl (
          taken_units g.D.SpareUnitDevice.SLOTS g.D.MapDevice.SECTORS g.D.SpareUnitDevice.SECTOR_FRAMES
          g.D.MapDevice.SPARES g.met.D.SpareUnitDevice.sectors_fit old.programs new.programs
          old.map new.map c.args.sector c.args.entry c.requires.sector c.requires.below c.requires.free
          programs_3 0 found filled);
    }

pub returns-clause-done : goal.returns-clause-done
returns-clause-done g c =
    let size = 32 * g.D.SpareUnitDevice.SECTOR_FRAMES in
    let old = g.D.MapDevice.state c.args.device.now in
    let one = g.D.MapDevice.state c.put_number.new.device in
    let two = g.D.MapDevice.state c.erase.new.self in
    let new = g.D.MapDevice.state c.put_mark.new.device in
    let mark : SameElsewhere one.map (slot_of 0 c.args.entry + 18) 2 new.map =
    subst (λ (l : List ℕ). SameElsewhere l (slot_of 0 c.args.entry + 18) 2 new.map) c.erase.ensures.map
    c.put_mark.ensures.mark in
    let change : SameElsewhere old.flash.words (size * (2 * g.D.MapDevice.SECTORS + 1 + c.args.entry)) size
    two.flash.words =
    subst (λ (l : List ℕ). SameElsewhere l (size * (2 * g.D.MapDevice.SECTORS + 1 + c.args.entry)) size
    two.flash.words)
    c.put_number.ensures.words
    (subst (λ (k : ℕ). SameElsewhere one.flash.words (size * (2 * k + 1 + c.args.entry)) size two.flash.words)
    c.SECTORS.ensures c.erase.ensures.elsewhere) in
    let change_3 : SameElsewhere old.flash.words (size * (2 * g.D.MapDevice.SECTORS + 1 + c.args.entry)) size
    new.flash.words =
    subst (λ (l : List ℕ). SameElsewhere old.flash.words (size * (2 * g.D.MapDevice.SECTORS + 1 + c.args.entry)) size
    l)
    (sym c.put_mark.ensures.words) change in
    let filled : AreFilled new.flash.words (size * (2 * g.D.MapDevice.SECTORS + 1 + c.args.entry)) size BLANK =
    subst (λ (l : List ℕ). AreFilled l (size * (2 * g.D.MapDevice.SECTORS + 1 + c.args.entry)) size BLANK)
    (sym c.put_mark.ensures.words)
    (subst (λ (k : ℕ). AreFilled two.flash.words (size * (2 * k + 1 + c.args.entry)) size BLANK)
    c.SECTORS.ensures c.in_ok-erase.ensures.done) in
    let found : find new.map 0 g.D.MapDevice.SPARES c.args.sector ≡ c.args.entry + 1 =
    mark_found g.D.MapDevice.SPARES c.args.entry c.args.sector (slot_of 0 c.args.entry) _ _ c.requires.below
    c.requires.free refl c.put_number.ensures.number
    new.map c.in_ok-put_number.ensures.names mark c.in_ok-put_mark.ensures.marked in
    taken_units g.D.SpareUnitDevice.SLOTS g.D.MapDevice.SECTORS g.D.SpareUnitDevice.SECTOR_FRAMES
    g.D.MapDevice.SPARES g.met.D.SpareUnitDevice.sectors_fit old.flash.words new.flash.words
    old.map new.map c.args.sector c.args.entry c.requires.sector c.requires.below c.requires.free
    change_3 BLANK found filled

pub returns-clause-index : goal.returns-clause-index
returns-clause-index g c =
    let old = g.D.MapDevice.state c.args.device.now in
    let one = g.D.MapDevice.state c.put_number.new.device in
    let two = g.D.MapDevice.state c.erase.new.self in
    let new = g.D.MapDevice.state c.put_mark.new.device in
    let mark : SameElsewhere one.map (slot_of 0 c.args.entry + 18) 2 new.map =
    subst (λ (l : List ℕ). SameElsewhere l (slot_of 0 c.args.entry + 18) 2 new.map) c.erase.ensures.map
    c.put_mark.ensures.mark in
    let found : find new.map 0 g.D.MapDevice.SPARES c.args.sector ≡ c.args.entry + 1 =
    mark_found g.D.MapDevice.SPARES c.args.entry c.args.sector (slot_of 0 c.args.entry) _ _ c.requires.below
    c.requires.free refl c.put_number.ensures.number
    new.map c.in_ok-put_number.ensures.names mark c.in_ok-put_mark.ensures.marked in
    let moves : MovesOnly g.D.MapDevice.SPARES old.map c.args.sector new.map =
    mark_moves g.D.MapDevice.SPARES c.args.entry c.args.sector (slot_of 0 c.args.entry) _ _ c.requires.below
    c.requires.free refl c.put_number.ensures.number new.map c.in_ok-put_number.ensures.names mark in
    let all = g.met.D.MapDevice.map_fits c.args.table.now in
    let most = c.requires.sector in
    subst (λ (t : List ℕ). IsPageTable (2 * g.D.MapDevice.SECTORS + 1) new.map 0 g.D.MapDevice.SPARES t)
    (sym c.set_entry.ensures)
    (index_moved g.D.MapDevice.SECTORS g.D.MapDevice.SPARES old.map _ c.requires.index new.map c.args.sector
    c.args.entry (omega (arith, all, most)) moves found)

pub returns-clause-tries : goal.returns-clause-tries
returns-clause-tries g c =
    let old = g.D.MapDevice.state c.args.device.now in
    let one = g.D.MapDevice.state c.put_number.new.device in
    let two = g.D.MapDevice.state c.erase.new.self in
    let new = g.D.MapDevice.state c.put_mark.new.device in
    let mark : SameElsewhere one.map (slot_of 0 c.args.entry + 18) 2 new.map =
    subst (λ (l : List ℕ). SameElsewhere l (slot_of 0 c.args.entry + 18) 2 new.map) c.erase.ensures.map
    c.put_mark.ensures.mark in
    let found : find new.map 0 g.D.MapDevice.SPARES c.args.sector ≡ c.args.entry + 1 =
    mark_found g.D.MapDevice.SPARES c.args.entry c.args.sector (slot_of 0 c.args.entry) _ _ c.requires.below
    c.requires.free refl c.put_number.ensures.number
    new.map c.in_ok-put_number.ensures.names mark c.in_ok-put_mark.ensures.marked in
    let sectors = g.D.MapDevice.SECTORS in
    let one_more : c.args.entry + 1 ≡ suc c.args.entry = omega arith in
    let there : 2 * sectors + suc c.args.entry ≡ 2 * sectors + 1 + c.args.entry = omega arith in
    let first = c.put_number.ensures.begun in
    let second = c.erase.ensures.begun in
    let third = c.put_mark.ensures.begun in
    record {
      begun = omega (arith, first, second, third);
      lies = λ ok. lies_spare sectors g.D.MapDevice.SPARES new.map c.args.sector c.args.entry (found ∙ one_more)
          ∙ there;
      same = λ ok. c.in_ok-put_mark.ensures.blames.ok refl ∙ c.in_ok-erase.ensures.blames.ok refl
          ∙ c.in_ok-put_number.ensures.blames.ok refl;
      fault = λ failed. absurd (no_error _ _ _ refl failed);
    }
