use Rattle.std.proofs.Common.{◌≤◌, ◌*◌, ℕ, sym, subst, ◌∙◌, arith}
use Rattle.spare_sectors.specs.laws.SpareParts.{lies_in_part}
use Rattle.spare_sectors.specs.laws.SpareSteps.{place_fits, place_is, place_within, table_most}
use Rattle.spare_sectors.proofs.spare_calls.place_of.Goals as goal

pub lies_at-requires-clause-sector : goal.lies_at-requires-clause-sector
lies_at-requires-clause-sector g c =
    subst (λ (s : ℕ). s ≤ 2 * g.D.MapDevice.SECTORS) (sym c.spot_of-spot.ensures.sector)
    (lies_in_part g.D.SpareDevice.SLOTS g.D.MapDevice.SECTORS g.D.SpareDevice.SECTOR_SLOTS
    g.D.SpareDevice.SECTOR_WORDS
    g.D.MapDevice.SPARES g.met.D.SpareDevice.sectors_fit c.args.at c.requires.at).most

pub lies_at-requires-clause-spare : goal.lies_at-requires-clause-spare
lies_at-requires-clause-spare g c =
    let most = subst (λ (s : ℕ). s ≤ 2 * g.D.MapDevice.SECTORS) (sym c.spot_of-spot.ensures.sector)
    (lies_in_part g.D.SpareDevice.SLOTS g.D.MapDevice.SECTORS g.D.SpareDevice.SECTOR_SLOTS
    g.D.SpareDevice.SECTOR_WORDS
    g.D.MapDevice.SPARES g.met.D.SpareDevice.sectors_fit c.args.at c.requires.at).most in
    table_most g.D.MapDevice.SECTORS g.D.MapDevice.SPARES _ _ c.requires.index _ most

pub overflow_add-result : goal.overflow_add-result
overflow_add-result g c =
    let is =
    place_is g.D.SpareDevice.SLOTS g.D.MapDevice.SECTORS g.D.SpareDevice.SECTOR_SLOTS g.D.SpareDevice.SECTOR_WORDS
    g.D.MapDevice.SPARES g.met.D.SpareDevice.sectors_fit (g.D.MapDevice.state c.args.device.now).map
    (g.D.Map.PageTable.entries c.args.table.now) c.requires.index c.args.at c.requires.at c.spot_of-spot.result.sector
    c.spot_of-spot.result.offset c.SECTOR_WORDS.result c.from.result c.spot_of-spot.ensures.sector
    c.spot_of-spot.ensures.offset c.SECTOR_WORDS.ensures (c.from.ensures ∙ c.lies_at.ensures.is) in
    let small =
    place_fits g.D.SpareDevice.SLOTS g.D.MapDevice.SECTORS g.D.SpareDevice.SECTOR_SLOTS g.D.SpareDevice.SECTOR_WORDS
    g.D.MapDevice.SPARES g.met.D.SpareDevice.sectors_fit (g.D.MapDevice.state c.args.device.now).map
    (g.D.Map.PageTable.entries c.args.table.now) c.requires.index c.args.at c.requires.at _ is in
    omega (arith, small)

pub returns-clause-is : goal.returns-clause-is
returns-clause-is g c =
    place_is g.D.SpareDevice.SLOTS g.D.MapDevice.SECTORS g.D.SpareDevice.SECTOR_SLOTS g.D.SpareDevice.SECTOR_WORDS
    g.D.MapDevice.SPARES g.met.D.SpareDevice.sectors_fit (g.D.MapDevice.state c.args.device.now).map
    (g.D.Map.PageTable.entries c.args.table.now) c.requires.index c.args.at c.requires.at c.spot_of-spot.result.sector
    c.spot_of-spot.result.offset c.SECTOR_WORDS.result c.from.result c.spot_of-spot.ensures.sector
    c.spot_of-spot.ensures.offset c.SECTOR_WORDS.ensures (c.from.ensures ∙ c.lies_at.ensures.is)

pub returns-clause-within : goal.returns-clause-within
returns-clause-within g c =
    let is =
    place_is g.D.SpareDevice.SLOTS g.D.MapDevice.SECTORS g.D.SpareDevice.SECTOR_SLOTS g.D.SpareDevice.SECTOR_WORDS
    g.D.MapDevice.SPARES g.met.D.SpareDevice.sectors_fit (g.D.MapDevice.state c.args.device.now).map
    (g.D.Map.PageTable.entries c.args.table.now) c.requires.index c.args.at c.requires.at c.spot_of-spot.result.sector
    c.spot_of-spot.result.offset c.SECTOR_WORDS.result c.from.result c.spot_of-spot.ensures.sector
    c.spot_of-spot.ensures.offset c.SECTOR_WORDS.ensures (c.from.ensures ∙ c.lies_at.ensures.is) in
    place_within g.D.SpareDevice.SLOTS g.D.MapDevice.SECTORS g.D.SpareDevice.SECTOR_SLOTS
    g.D.SpareDevice.SECTOR_WORDS
    g.D.MapDevice.SPARES g.met.D.SpareDevice.sectors_fit (g.D.MapDevice.state c.args.device.now).map
    (g.D.Map.PageTable.entries c.args.table.now) c.requires.index c.args.at c.requires.at _ is
