use Rattle.std.proofs.Common.{◌≡◌, ◌≤◌, ◌+◌, ℕ, ◌-◌, ap, ◌∙◌, arith}
use Rattle.flash_device.specs.FlashBlocks.{area_size}
use Rattle.flash_area.specs.Spares.{spare_in, spare_sector}
use Rattle.flash_area.specs.laws.Sectors.{spare_first}
use Rattle.sector_moves.specs.laws.Sizing.{sector_low, sector_high}
use Rattle.sector_moves.proofs.layout.spare_slots.Given.{Over}
use Rattle.sector_moves.proofs.layout.spare_slots.Goals.{After-sector_at-2}
use Rattle.sector_moves.proofs.layout.spare_slots.Goals as goal

-- where the sector begins in the other area
place : (g : Over) (c : After-sector_at-2 g) → (c.sector_at-2.result ≤ c.sector_at.result)
    × (c.sector_at.result - c.sector_at-2.result ≤ area_size g.F.Flash.SLOTS)
place g c =
    let slots = g.F.Flash.SLOTS in
    let sectors = g.F.Flash.SECTORS in
    let start = g.F.Flash.sector_start in
    let fit = g.met.F.Flash.sectors_fit in
    let turn = c.args.turn in
    let n = c.args.n in
    let low = sector_low start slots sectors g.met.F.Flash.sectors_rise fit.0 fit.1 fit.2 turn n in
    let high = sector_high start slots sectors g.met.F.Flash.sectors_rise fit.0 fit.1 fit.2 turn n c.requires in
    let begins = spare_first start slots sectors fit.0 fit.1 fit.2 turn in
    let is = c.first_sector_of_spare-first.ensures.is in
    let here : c.sector_at.result ≡ start (spare_sector sectors turn + n) =
    c.sector_at.ensures ∙ ap (λ (f : ℕ). start (f + n)) is in
    let zero : c.sector_at-2.result ≡ spare_in slots turn = c.sector_at-2.ensures ∙ ap start is ∙ begins in
    (omega (arith, here, zero, low), omega (arith, here, zero, high))

pub overflow_sub-result : goal.overflow_sub-result
overflow_sub-result g c = (place g c).0

pub overflow_cast-result : goal.overflow_cast-result
overflow_cast-result g c = let high = (place g c).1 in let fit = g.met.F.Flash.slots_fit in omega (arith, high, fit)

pub returns-clause-most : goal.returns-clause-most
returns-clause-most g c = let high = (place g c).1 in omega (arith, high)
