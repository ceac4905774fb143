use Rattle.std.proofs.Common.{◌≡◌, ◌+◌, ◌-◌, ℕ, refl, subst, inr, arith}
use Rattle.flash_device.specs.declared.flash.TheConstants.{BLANK}
use Rattle.flash_device.specs.FlashBlocks.{steps_of}
use Rattle.flash_device.specs.FlashCalls.{AreFilled, SameElsewhere}
use Rattle.flash_area.specs.Spares.{spare_sector}
use Rattle.sector_moves.specs.laws.Keeping.{LeavesSector, sector_stays}
use Rattle.sector_moves.proofs.steps.erase_next.Given.{Over}
use Rattle.sector_moves.proofs.steps.erase_next.Goals.{After-erase}
use Rattle.sector_moves.proofs.steps.erase_next.Goals as goal

leaves : (g : Over) (c : After-erase g)
    → LeavesSector g.F.Table.PageTable.entries g.F.Flash.PAGES g.F.Flash.SLOTS g.F.Flash.SECTORS
    g.F.Flash.sector_start (g.F.Flash.state c.args.flash.now).words c.args.place.now
    (steps_of g.F.Flash.PAGES + c.args.place.now.erased) (g.F.Flash.state c.erase.new.self).words
leaves g c =
    let pages = g.F.Flash.PAGES in
    let sectors = g.F.Flash.SECTORS in
    let start = g.F.Flash.sector_start in
    let fit = g.met.F.Flash.sectors_fit in
    let left = g.met.F.SectorFlash.sectors_left in
    let m = (g.F.Flash.state c.args.flash.now).words in
    let after = (g.F.Flash.state c.erase.new.self).words in
    let place = c.args.place.now in
    let lt = c.requires.moves.1 in
    let first = c.first_sector_of_spare.ensures.is in
    let steps = c.copy_steps.ensures in
    let s = spare_sector sectors place.turn in
    let n = steps_of pages + place.erased in
    let here : c.first_sector_of_spare.result + (c.copy_steps.result + place.erased) ≡ s + n =
    omega (arith, first, steps) in
    let there : s + n + 1 ≡ s + (n + 1) = omega arith in
    sector_stays pages g.F.Flash.SLOTS sectors start g.met.F.Flash.sectors_rise fit.0 fit.1 fit.2
    g.F.Table.PageTable.entries left m after place n c.requires.log c.requires.ready c.requires.moves.0
    (inr (omega arith, omega (arith, lt, left)))
    (subst (λ (k : ℕ). SameElsewhere m (start (s + n)) (start k - start (s + n)) after) there
    (subst (λ (k : ℕ). SameElsewhere m (start k) (start (k + 1) - start k) after) here c.erase.ensures.elsewhere))

pub returns-in_err-erase-clause-words : goal.returns-in_err-erase-clause-words
returns-in_err-erase-clause-words g c =
    (leaves g (goal.at.returns-in_err-erase-clause-words g c).After-erase).stays.words

pub returns-in_err-erase-clause-log : goal.returns-in_err-erase-clause-log
returns-in_err-erase-clause-log g c =
    (leaves g (goal.at.returns-in_err-erase-clause-log g c).After-erase).failed

pub returns-clause-words : goal.returns-clause-words
returns-clause-words g c = (leaves g (goal.at.returns-clause-words g c).After-erase).stays.words

pub returns-clause-log : goal.returns-clause-log
returns-clause-log g c =
    let start = g.F.Flash.sector_start in
    let after = (g.F.Flash.state c.erase.new.self).words in
    let place = c.args.place.now in
    let first = c.first_sector_of_spare.ensures.is in
    let steps = c.copy_steps.ensures in
    let s = spare_sector g.F.Flash.SECTORS place.turn in
    let n = steps_of g.F.Flash.PAGES + place.erased in
    let here : c.first_sector_of_spare.result + (c.copy_steps.result + place.erased) ≡ s + n =
    omega (arith, first, steps) in
    let there : s + n + 1 ≡ s + (n + 1) = omega arith in
    (leaves g (goal.at.returns-clause-log g c).After-erase).erased refl c.requires.moves.1
    (subst (λ (k : ℕ). AreFilled after (start (s + n)) (start k - start (s + n)) BLANK) there
    (subst (λ (k : ℕ). AreFilled after (start k) (start (k + 1) - start k) BLANK) here c.in_ok-erase.ensures.done))
