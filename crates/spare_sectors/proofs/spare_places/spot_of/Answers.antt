use Rattle.std.proofs.Common.{◌≡◌, ◌<◌, ◌≤◌, ◌+◌, ◌-◌, ◌*◌, ℕ, sym, ap, ap₂, ◌∙◌, arith}
use Rattle.flash_device.specs.FlashBlocks.{area_size, witness_start}
use Rattle.spare_sectors.specs.SparePlaces.{part_in}
use Rattle.spare_sectors.specs.laws.SpareParts.{offset_a, offset_b, offset_w, sector_a, sector_b, sector_w}
use Rattle.spare_sectors.proofs.spare_places.spot_of.Goals as goal

pub returns-then-at-area-clause-sector : goal.returns-then-at-area-clause-sector
returns-then-at-area-clause-sector g c =
    let slots = g.D.SpareDevice.SLOTS in
    let ge : witness_start slots ≤ c.args.at = omega (arith, c.if-at-area.true, c.SLOTS.ensures, c.from.ensures) in
    let twice : 2 * c.SECTORS.result ≡ 2 * g.D.MapDevice.SECTORS = omega (arith, c.SECTORS.ensures) in
    twice ∙ sym (sector_w slots g.D.MapDevice.SECTORS g.D.SpareDevice.SECTOR_SLOTS g.D.SpareDevice.SECTOR_WORDS
    g.D.MapDevice.SPARES g.met.D.SpareDevice.sectors_fit c.args.at ge)

pub returns-then-at-area-clause-offset : goal.returns-then-at-area-clause-offset
returns-then-at-area-clause-offset g c =
    let slots = g.D.SpareDevice.SLOTS in
    let ge : witness_start slots ≤ c.args.at = omega (arith, c.if-at-area.true, c.SLOTS.ensures, c.from.ensures) in
    let e = offset_w slots g.D.MapDevice.SECTORS g.D.SpareDevice.SECTOR_SLOTS g.D.SpareDevice.SECTOR_WORDS
    g.D.MapDevice.SPARES g.met.D.SpareDevice.sectors_fit c.args.at ge in
    omega (arith, e, c.SLOTS.ensures, c.from.ensures)

pub returns-then-at-area-2-clause-sector : goal.returns-then-at-area-2-clause-sector
returns-then-at-area-2-clause-sector g c =
    let slots = g.D.SpareDevice.SLOTS in
    let sectors = g.D.MapDevice.SECTORS in
    let each = g.D.SpareDevice.SECTOR_SLOTS in
    let lt : c.args.at < witness_start slots = omega (arith, c.if-at-area.false, c.SLOTS.ensures, c.from.ensures) in
    let ge : area_size slots ≤ c.args.at = omega (arith, c.if-at-area-2.true, c.SLOTS.ensures, c.from.ensures) in
    let here : c.args.at - (20 * c.from.result + 2) ≡ c.args.at - area_size slots =
    omega (arith, c.SLOTS.ensures, c.from.ensures) in
    c.spot_in.ensures.sector ∙ ap₂ (λ (f r : ℕ). f + part_in sectors each r) c.SECTORS-then-at-area-2.ensures here
    ∙ sym (sector_b slots sectors each g.D.SpareDevice.SECTOR_WORDS g.D.MapDevice.SPARES
    g.met.D.SpareDevice.sectors_fit c.args.at ge lt)

pub returns-then-at-area-2-clause-offset : goal.returns-then-at-area-2-clause-offset
returns-then-at-area-2-clause-offset g c =
    let slots = g.D.SpareDevice.SLOTS in
    let sectors = g.D.MapDevice.SECTORS in
    let each = g.D.SpareDevice.SECTOR_SLOTS in
    let lt : c.args.at < witness_start slots = omega (arith, c.if-at-area.false, c.SLOTS.ensures, c.from.ensures) in
    let ge : area_size slots ≤ c.args.at = omega (arith, c.if-at-area-2.true, c.SLOTS.ensures, c.from.ensures) in
    let here : c.args.at - (20 * c.from.result + 2) ≡ c.args.at - area_size slots =
    omega (arith, c.SLOTS.ensures, c.from.ensures) in
    c.spot_in.ensures.offset ∙ ap (λ (r : ℕ). r - 20 * (each * part_in sectors each r)) here
    ∙ sym (offset_b slots sectors each g.D.SpareDevice.SECTOR_WORDS g.D.MapDevice.SPARES
    g.met.D.SpareDevice.sectors_fit c.args.at ge lt)

pub returns-clause-sector : goal.returns-clause-sector
returns-clause-sector g c =
    let slots = g.D.SpareDevice.SLOTS in
    let lt : c.args.at < area_size slots = omega (arith, c.if-at-area-2.false, c.SLOTS.ensures, c.from.ensures) in
    let none : 0 + part_in g.D.MapDevice.SECTORS g.D.SpareDevice.SECTOR_SLOTS c.args.at
    ≡ part_in g.D.MapDevice.SECTORS g.D.SpareDevice.SECTOR_SLOTS c.args.at = omega arith in
    c.spot_in-2.ensures.sector ∙ none ∙ sym (sector_a slots g.D.MapDevice.SECTORS g.D.SpareDevice.SECTOR_SLOTS
    g.D.SpareDevice.SECTOR_WORDS g.D.MapDevice.SPARES g.met.D.SpareDevice.sectors_fit c.args.at lt)

pub returns-clause-offset : goal.returns-clause-offset
returns-clause-offset g c =
    let slots = g.D.SpareDevice.SLOTS in
    let lt : c.args.at < area_size slots = omega (arith, c.if-at-area-2.false, c.SLOTS.ensures, c.from.ensures) in
    c.spot_in-2.ensures.offset ∙ sym (offset_a slots g.D.MapDevice.SECTORS g.D.SpareDevice.SECTOR_SLOTS
    g.D.SpareDevice.SECTOR_WORDS g.D.MapDevice.SPARES g.met.D.SpareDevice.sectors_fit c.args.at lt)
