use Rattle.std.proofs.Common.{◌≡◌, ℕ, List, sym, ap, subst, ⊎_elim, ◌∙◌, true, false}
use Rattle.flash_device.specs.FlashBlocks.{area_size}
use Rattle.flash_device.specs.FlashLogs.{base_in, turn_of}
use Rattle.flash_device.specs.PageTables.{IsPageTable}
use Rattle.flash_area.specs.laws.Copying.{SameArea}
use Rattle.flash_moves.specs.declared.place.PageMap.{PageMap}
use Rattle.flash_moves.specs.laws.Moving.{witness_area}
use Rattle.flash_moves.specs.laws.Sparing.{index_same}
use Rattle.sector_moves.specs.SectorPlaces.{IsSectorLog}
use Rattle.sector_moves.specs.laws.Passing.{witness_passed, witness_stays, witness_unknown}
use Rattle.sector_moves.proofs.steps.pass_on.Given.{Over}
use Rattle.sector_moves.proofs.steps.pass_on.Goals.{After-pass_witness}
use Rattle.sector_moves.proofs.steps.pass_on.Goals as goal

-- the pages have to be found again
unknown : (g : Over) (c : After-pass_witness g) (table : g.row.F-Table.Denot)
    → IsSectorLog g.F.Table.PageTable.entries g.F.Flash.PAGES g.F.Flash.SLOTS g.F.Flash.SECTORS
    g.F.Flash.sector_start (g.F.Flash.state c.pass_witness.new.flash).words
    (record c.args.place.now { ready = false; table = table })
unknown g c table =
    let fit = g.met.F.Flash.sectors_fit in
    witness_unknown g.F.Flash.PAGES g.F.Flash.SLOTS g.F.Flash.SECTORS g.F.Flash.sector_start fit.0 fit.1 fit.2
    g.met.F.SectorFlash.sectors_left g.met.F.Flash.pages_fit.0 g.F.Table.PageTable.entries
    (g.F.Flash.state c.args.flash.now).words (g.F.Flash.state c.pass_witness.new.flash).words c.args.place.now
    (c.requires.log.known c.requires.ready) c.requires.turn c.pass_witness.ensures.ring c.pass_witness.ensures.area
    c.pass_witness.ensures.passes table

-- the turn has passed
passed : (g : Over) (c : After-pass_witness g) (table : g.row.F-Table.Denot)
    → turn_of g.F.Flash.SLOTS (g.F.Flash.state c.pass_witness.new.flash).words ≡ 2
    → IsPageTable g.F.Flash.PAGES (g.F.Flash.state c.pass_witness.new.flash).words (area_size g.F.Flash.SLOTS)
    g.F.Flash.SLOTS (g.F.Table.PageTable.entries table)
    → IsSectorLog g.F.Table.PageTable.entries g.F.Flash.PAGES g.F.Flash.SLOTS g.F.Flash.SECTORS
    g.F.Flash.sector_start (g.F.Flash.state c.pass_witness.new.flash).words
    (record c.args.place.now { ready = true; table = table; turn = 2; erased = 0; copied = 0; older = 0 })
passed g c table two index =
    let fit = g.met.F.Flash.sectors_fit in
    witness_passed g.F.Flash.PAGES g.F.Flash.SLOTS g.F.Flash.SECTORS g.F.Flash.sector_start fit.0 fit.1 fit.2
    g.met.F.SectorFlash.sectors_left g.met.F.Flash.pages_fit.0 g.F.Table.PageTable.entries
    (g.F.Flash.state c.args.flash.now).words (g.F.Flash.state c.pass_witness.new.flash).words c.args.place.now
    (c.requires.log.known c.requires.ready) c.requires.turn c.pass_witness.ensures.ring c.pass_witness.ensures.area
    two table index

pub returns-in-Err-PowerLost-clause-log : goal.returns-in-Err-PowerLost-clause-log
returns-in-Err-PowerLost-clause-log g c =
    unknown g (goal.at.returns-in-Err-PowerLost-clause-log g c).After-pass_witness c.args.place.now.table

pub returns-in_err-turn-in-Err-Fault-clause-log : goal.returns-in_err-turn-in-Err-Fault-clause-log
returns-in_err-turn-in-Err-Fault-clause-log g c =
    let at = (goal.at.returns-in_err-turn-in-Err-Fault-clause-log g c).After-pass_witness in
    let table = c.area_again.new.table in
    subst (λ (l : List ℕ). IsSectorLog g.F.Table.PageTable.entries g.F.Flash.PAGES g.F.Flash.SLOTS g.F.Flash.SECTORS
    g.F.Flash.sector_start l (record c.args.place.now { ready = false; table = table }))
    (sym c.area_again.ensures.words) (unknown g at table)

pub returns-then-turn-eq1-clause-log : goal.returns-then-turn-eq1-clause-log
returns-then-turn-eq1-clause-log g c =
    let slots = g.F.Flash.SLOTS in
    let pages = g.F.Flash.PAGES in
    let entries = g.F.Table.PageTable.entries in
    let table = c.area_again.new.table in
    let fit = g.met.F.Flash.sectors_fit in
    let mid = (g.F.Flash.state c.pass_witness.new.flash).words in
    let after = (g.F.Flash.state c.area_again.new.flash).words in
    let same : after ≡ mid = c.area_again.ensures.words in
    let one : c.in_ok-turn-in-Err-Fault.turn ≡ 1 = c.if-turn-eq1.true in
    let turn : turn_of slots mid ≡ 1 =
    ap (turn_of slots) (sym same) ∙ sym c.in_ok-turn-in-Err-Fault.ensures.turn.0 ∙ one in
    subst (λ (l : List ℕ). IsSectorLog entries pages slots g.F.Flash.SECTORS g.F.Flash.sector_start l
    (record c.args.place.now { ready = true; table = table })) (sym same)
    (witness_stays pages slots g.F.Flash.SECTORS g.F.Flash.sector_start fit.0 fit.1 fit.2
    g.met.F.SectorFlash.sectors_left g.met.F.Flash.pages_fit.0 entries (g.F.Flash.state c.args.flash.now).words mid
    c.args.place.now (c.requires.log.known c.requires.ready) c.requires.turn c.pass_witness.ensures.ring
    c.pass_witness.ensures.area turn table
    (subst (λ (l : List ℕ). IsPageTable pages l (area_size slots) slots (entries table)) same
    (subst (λ (t : ℕ). IsPageTable pages after (base_in slots t) slots (entries table)) one
    c.in_ok-turn-in-Err-Fault.ensures.index)))

pub returns-in-Err-Fault-clause-log : goal.returns-in-Err-Fault-clause-log
returns-in-Err-Fault-clause-log g c =
    let at = (goal.at.returns-in-Err-Fault-clause-log g c).After-pass_witness in
    let slots = g.F.Flash.SLOTS in
    let pages = g.F.Flash.PAGES in
    let entries = g.F.Table.PageTable.entries in
    let table = c.area_again.new.table in
    let mid = (g.F.Flash.state c.pass_witness.new.flash).words in
    let after = (g.F.Flash.state c.area_again.new.flash).words in
    let same : after ≡ mid = c.area_again.ensures.words in
    let found : c.in_ok-turn-in-Err-Fault.turn ≡ turn_of slots mid =
    c.in_ok-turn-in-Err-Fault.ensures.turn.0 ∙ ap (turn_of slots) same in
    let turn : turn_of slots mid ≡ 2 = ⊎_elim
    (λ (one : turn_of slots mid ≡ 1). absurd (c.if-turn-eq1.false (found ∙ one)))
    (λ (two : turn_of slots mid ≡ 2). two) c.pass_witness.ensures.passes in
    subst (λ (q : PageMap g.row.F-Table.Denot). IsSectorLog entries pages slots g.F.Flash.SECTORS
    g.F.Flash.sector_start after q) (sym c.begin_steps.ensures)
    (subst (λ (l : List ℕ). IsSectorLog entries pages slots g.F.Flash.SECTORS g.F.Flash.sector_start l
    (record c.args.place.now { ready = true; table = table; turn = 2; erased = 0; copied = 0; older = 0 })) (sym same)
    (passed g at table turn
    (subst (λ (l : List ℕ). IsPageTable pages l (area_size slots) slots (entries table)) same
    (subst (λ (t : ℕ). IsPageTable pages after (base_in slots t) slots (entries table)) (found ∙ turn)
    c.in_ok-turn-in-Err-Fault.ensures.index))))

pub returns-clause-log : goal.returns-clause-log
returns-clause-log g c =
    let at = (goal.at.returns-clause-log g c).After-pass_witness in
    let slots = g.F.Flash.SLOTS in
    let pages = g.F.Flash.PAGES in
    let entries = g.F.Table.PageTable.entries in
    let m = (g.F.Flash.state c.args.flash.now).words in
    let after = (g.F.Flash.state c.pass_witness.new.flash).words in
    let place = c.args.place.now in
    let home : base_in slots place.turn ≡ area_size slots = ap (base_in slots) c.requires.turn in
    let area : SameArea slots m after (area_size slots) = witness_area pages slots m after
    c.pass_witness.ensures.area in
    subst (λ (q : PageMap g.row.F-Table.Denot). IsSectorLog entries pages slots g.F.Flash.SECTORS
    g.F.Flash.sector_start after q) (sym c.begin_steps-2.ensures)
    (passed g at place.table c.in-Ok.ensures.done
    (index_same slots pages m after (entries place.table) (area_size slots) area
    (subst (λ (b : ℕ). IsPageTable pages m b slots (entries place.table)) home
    (c.requires.log.known c.requires.ready).place.index)))
