use Rattle.std.proofs.Common.{◌≡◌, ◌+◌, ◌-◌, ◌*◌, ℕ, List, true, false, sym, ap, subst, ◌∙◌, arith}
use Rattle.flash_device.specs.FlashCalls.{SameElsewhere}
use Rattle.flash_device.specs.FlashLogs.{base_in, find, slot_of, turn_of}
use Rattle.flash_device.specs.PageTables.{AreFree, IsPageTable}
use Rattle.flash_log.specs.laws.TakingTurns.{put_in_area}
use Rattle.flash_moves.specs.laws.Turns.{turn_same}
use Rattle.sector_moves.specs.SectorPlaces.{IsSectorLog}
use Rattle.sector_log.specs.laws.Recording.{run_known, run_unknown}
use Rattle.sector_log.proofs.tries.write_once.Given.{Over}
use Rattle.sector_log.proofs.tries.write_once.Goals.{After-write_run-ended}
use Rattle.sector_log.proofs.tries.write_once.Goals as goal

abbrev before : (g : Over) → After-write_run-ended g → List ℕ
before g c = (g.F.Flash.state c.args.flash.now).words

abbrev after : (g : Over) → After-write_run-ended g → List ℕ
after g c = (g.F.Flash.state c.write_run-ended.new.flash).words

abbrev base : (g : Over) → After-write_run-ended g → ℕ
base g c = base_in g.F.Flash.SLOTS c.args.place.now.turn

elsewhere : (g : Over) (c : After-write_run-ended g)
    → SameElsewhere (before g c) (base g c) (20 * g.F.Flash.SLOTS) (after g c)
elsewhere g c =
    let room = c.requires.takes.room in
    put_in_area g.F.Flash.SLOTS (before g c) (after g c) (base g c) c.args.place.now.next (omega (arith, room))
    (subst (λ (b : ℕ). SameElsewhere (before g c) (slot_of b c.args.place.now.next) 20 (after g c))
    (c.home.ensures.is g.F.Flash.SLOTS) c.write_run-ended.ensures.elsewhere)

held : (g : Over) (c : After-write_run-ended g) → (q : ℕ) → find (after g c) (base g c) g.F.Flash.SLOTS q ≡ 0
    → find (before g c) (base g c) g.F.Flash.SLOTS q ≡ 0
held g c =
    let slots = g.F.Flash.SLOTS in
    subst (λ (b : ℕ). (q : ℕ) → find (after g c) b slots q ≡ 0 → find (before g c) b slots q ≡ 0)
    (c.home.ensures.is slots) c.write_run-ended.ensures.held

behind : (g : Over) (c : After-write_run-ended g)
    → AreFree (after g c) (base g c) (c.args.place.now.next + 1) g.F.Flash.SLOTS
behind g c =
    let slots = g.F.Flash.SLOTS in
    subst (λ (b : ℕ). AreFree (after g c) b (c.args.place.now.next + 1) slots) (c.home.ensures.is slots)
    c.write_run-ended.ensures.free

unknown : (g : Over) (c : After-write_run-ended g) (table : g.row.F-Table.Denot)
    → IsSectorLog g.F.Table.PageTable.entries g.F.Flash.PAGES g.F.Flash.SLOTS g.F.Flash.SECTORS
    g.F.Flash.sector_start (after g c)
    (record c.args.place.now { ready = false; table = table; tried = c.args.place.now.next + 1 })
unknown g c table =
    let fit = g.met.F.Flash.sectors_fit in
    let place = c.args.place.now in
    run_unknown g.F.Flash.PAGES g.F.Flash.SLOTS g.F.Flash.SECTORS g.F.Flash.sector_start g.met.F.Flash.sectors_rise
    fit.0 fit.1 fit.2 g.F.Table.PageTable.entries g.met.F.SectorFlash.sectors_left (before g c) (after g c) place
    (c.requires.log.known c.requires.takes.ready).place (elsewhere g c) (held g c) c.args.page c.args.first
    c.requires.takes.older c.args.words.now c.requires.run c.requires.log.ring c.requires.takes.room
    c.write_run-ended.ensures.marks (behind g c) c.write_run-ended.ensures.whole table

known : (g : Over) (c : After-write_run-ended g) (table : g.row.F-Table.Denot)
    → IsPageTable g.F.Flash.PAGES (after g c) (base g c) g.F.Flash.SLOTS (g.F.Table.PageTable.entries table)
    → IsSectorLog g.F.Table.PageTable.entries g.F.Flash.PAGES g.F.Flash.SLOTS g.F.Flash.SECTORS
    g.F.Flash.sector_start (after g c)
    (record c.args.place.now {
      ready = true;
      table = table;
      next = c.args.place.now.next + 1;
      tried = c.args.place.now.next + 1;
      older = c.older_page-older.result;
    })
known g c table index =
    let fit = g.met.F.Flash.sectors_fit in
    let place = c.args.place.now in
    run_known g.F.Flash.PAGES g.F.Flash.SLOTS g.F.Flash.SECTORS g.F.Flash.sector_start g.met.F.Flash.sectors_rise
    fit.0 fit.1 fit.2 g.F.Table.PageTable.entries g.met.F.SectorFlash.sectors_left (before g c) (after g c) place
    (c.requires.log.known c.requires.takes.ready).place (elsewhere g c) (held g c) c.args.page c.args.first
    c.requires.takes.older c.args.words.now c.requires.run c.requires.log.ring c.requires.takes.room
    c.write_run-ended.ensures.marks (behind g c) c.write_run-ended.ensures.whole table c.older_page-older.result
    c.older_page-older.ensures.one c.older_page-older.ensures.none index

pub returns-in-Err-PowerLost-clause-log : goal.returns-in-Err-PowerLost-clause-log
returns-in-Err-PowerLost-clause-log g c =
    let at = (goal.at.returns-in-Err-PowerLost-clause-log g c).After-write_run-ended in
    unknown g at c.write_run-ended.new.table

pub returns-in_err-area_again-in-Err-Fault-clause-log : goal.returns-in_err-area_again-in-Err-Fault-clause-log
returns-in_err-area_again-in-Err-Fault-clause-log g c =
    let at = (goal.at.returns-in_err-area_again-in-Err-Fault-clause-log g c).After-write_run-ended in
    subst (λ (l : List ℕ). IsSectorLog g.F.Table.PageTable.entries g.F.Flash.PAGES g.F.Flash.SLOTS g.F.Flash.SECTORS
    g.F.Flash.sector_start l (record c.args.place.now {
      ready = false;
      table = c.area_again.new.table;
      tried = c.args.place.now.next + 1;
    })) (sym c.area_again.ensures.words) (unknown g at c.area_again.new.table)

pub returns-in-Err-Fault-clause-log : goal.returns-in-Err-Fault-clause-log
returns-in-Err-Fault-clause-log g c =
    let at = (goal.at.returns-in-Err-Fault-clause-log g c).After-write_run-ended in
    let slots = g.F.Flash.SLOTS in
    let pages = g.F.Flash.PAGES in
    let entries = g.F.Table.PageTable.entries in
    let table = c.area_again.new.table in
    subst (λ (l : List ℕ). IsSectorLog entries pages slots g.F.Flash.SECTORS g.F.Flash.sector_start l
    (record c.args.place.now {
      ready = true;
      table = table;
      next = c.args.place.now.next + 1;
      tried = c.args.place.now.next + 1;
      older = c.older_page-older.result;
    })) (sym c.area_again.ensures.words)
    (known g at table
    (subst (λ (l : List ℕ). IsPageTable pages l (base g at) slots (entries table)) c.area_again.ensures.words
    (subst (λ (b : ℕ). IsPageTable pages (g.F.Flash.state c.area_again.new.flash).words b slots (entries table))
    (ap (base_in slots) (c.in_ok-area_again-in-Err-Fault.ensures.turn.0
    ∙ ap (turn_of slots) c.area_again.ensures.words
    ∙ turn_same slots (before g at) (after g at) c.write_run-ended.ensures.marks
    ∙ sym (c.requires.log.known c.requires.takes.ready).place.turn))
    c.in_ok-area_again-in-Err-Fault.ensures.index)))

pub returns-clause-log : goal.returns-clause-log
returns-clause-log g c =
    let at = (goal.at.returns-clause-log g c).After-write_run-ended in
    let slots = g.F.Flash.SLOTS in
    let table = c.write_run-ended.new.table in
    known g at table
    (subst (λ (b : ℕ). IsPageTable g.F.Flash.PAGES (after g at) b slots (g.F.Table.PageTable.entries table))
    (c.home.ensures.is slots) c.in-Ok.ensures.index)

pub returns-clause-last : goal.returns-clause-last
returns-clause-last g c =
    let at = (goal.at.returns-clause-last g c).After-write_run-ended in
    let slots = g.F.Flash.SLOTS in
    let place = c.args.place.now in
    let room = c.requires.takes.room in
    let turn = (c.requires.log.known c.requires.takes.ready).place.turn in
    let home : base_in slots c.home.result ≡ base_in slots (turn_of slots (after g at)) =
    c.home.ensures.is slots
    ∙ ap (base_in slots) (turn ∙ sym (turn_same slots (before g at) (after g at) c.write_run-ended.ensures.marks)) in
    let last : find (after g at) (base_in slots c.home.result) slots c.args.page ≡ place.next + 1 =
    c.in-Ok.ensures.last in
    let put : place.next + 1 ≡ slots - (slots - (place.next + 1)) = omega (arith, room) in
    subst (λ (b : ℕ). find (after g at) b slots c.args.page ≡ slots - (slots - (place.next + 1))) home (last ∙ put)
