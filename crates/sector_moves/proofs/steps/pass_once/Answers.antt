use Rattle.std.proofs.Common.{◌≡◌, ◌≢◌, ◌<◌, ◌+◌, ℕ, List, refl, sym, ap, subst, ◌∙◌, true, false, true≢false}
use Rattle.std.proofs.Common.{arith}
use Rattle.flash_device.specs.FlashBlocks.{steps_of}
use Rattle.flash_device.specs.FlashLogs.{base_in, turn_of, words_of}
use Rattle.flash_device.specs.PageTables.{IsPageTable}
use Rattle.flash_area.specs.Spares.{HasCopies, spare_in}
use Rattle.flash_moves.specs.declared.place.PageMap.{PageMap}
use Rattle.sector_moves.specs.SectorPlaces.{HasTakenStep, IsSectorLog}
use Rattle.sector_moves.specs.SectorSpares.{HasMovedSteps, sector_lead, spare_slot}
use Rattle.sector_moves.specs.laws.Keeping.{moved_copies, moved_place, pass_steps}
use Rattle.sector_moves.specs.laws.Passing.{turn_passed, turn_stays, turn_unknown}
use Rattle.sector_moves.specs.laws.Stepping.{sector_steps_most}
use Rattle.sector_moves.proofs.steps.pass_once.Given.{Over}
use Rattle.sector_moves.proofs.steps.pass_once.Goals.{After-pass_turn}
use Rattle.sector_moves.proofs.steps.pass_once.Goals as goal

-- the pages have to be found again
unknown : (g : Over) (c : After-pass_turn g) (q : PageMap g.row.F-Table.Denot) → q.ready ≡ false → q.tried ≡ 0
    → IsSectorLog g.F.Table.PageTable.entries g.F.Flash.PAGES g.F.Flash.SLOTS g.F.Flash.SECTORS
    g.F.Flash.sector_start (g.F.Flash.state c.pass_turn.new.flash).words q
unknown g c q unready none =
    let fit = g.met.F.Flash.sectors_fit in
    let place = c.args.place.now in
    turn_unknown g.F.Flash.PAGES g.F.Flash.SLOTS g.F.Flash.SECTORS g.F.Flash.sector_start fit.0 fit.1 fit.2
    g.met.F.SectorFlash.sectors_left g.met.F.Flash.pages_fit.0 g.F.Table.PageTable.entries
    (g.F.Flash.state c.args.flash.now).words (g.F.Flash.state c.pass_turn.new.flash).words place
    (c.requires.log.known c.requires.ready) g.met.F.Flash.sectors_rise g.met.F.Flash.pages_fit.2
    (g.met.F.SectorFlash.slots_left place.turn) c.requires.pages c.requires.log.ring c.requires.turn
    c.pass_turn.ensures.elsewhere q unready none

pub pass_turn-requires-clause-copies : goal.pass_turn-requires-clause-copies
pass_turn-requires-clause-copies g c =
    let slots = g.F.Flash.SLOTS in
    let pages = g.F.Flash.PAGES in
    let sectors = g.F.Flash.SECTORS in
    let start = g.F.Flash.sector_start in
    let fit = g.met.F.Flash.sectors_fit in
    let m = (g.F.Flash.state c.args.flash.now).words in
    let turn = c.args.place.now.turn in
    let behind : c.spare_slot-behind.result ≡ spare_slot slots sectors start turn (steps_of pages) =
    c.spare_slot-behind.ensures.is ∙ ap (λ (n : ℕ). spare_slot slots sectors start turn n) c.copy_steps.ensures in
    subst (λ (b : ℕ). HasCopies pages slots m (words_of pages slots m) (base_in slots turn) (spare_in slots turn)
    pages b 0) (sym behind)
    (moved_copies pages slots sectors start g.met.F.Flash.sectors_rise fit.0 fit.1 fit.2
    g.met.F.SectorFlash.sectors_left g.met.F.Flash.pages_fit.2 m turn (g.met.F.SectorFlash.slots_left turn)
    c.requires.pages)

pub returns-in-Ok-clause-log : goal.returns-in-Ok-clause-log
returns-in-Ok-clause-log g c =
    let slots = g.F.Flash.SLOTS in
    let pages = g.F.Flash.PAGES in
    let sectors = g.F.Flash.SECTORS in
    let start = g.F.Flash.sector_start in
    let fit = g.met.F.Flash.sectors_fit in
    let turn = c.args.place.now.turn in
    let n = c.spare_slot-behind.result in
    let behind : n ≡ spare_slot slots sectors start turn (steps_of pages) =
    c.spare_slot-behind.ensures.is ∙ ap (λ (n : ℕ). spare_slot slots sectors start turn n) c.copy_steps.ensures in
    let fits = g.met.F.SectorFlash.slots_left turn in
    let room : n + sector_lead sectors < slots = omega (arith, behind, fits) in
    let log = c.in-Ok.ensures.log in
    let fresh = c.in-Ok.ensures.fresh in
    let is : IsSectorLog g.F.Table.PageTable.entries pages slots sectors start
    (g.F.Flash.state c.pass_turn.new.flash).words c.pass_turn.new.place = record {
      ring = log.ring;
      known = λ e. moved_place pages slots sectors start g.met.F.Flash.sectors_rise fit.0 fit.1 fit.2
          g.F.Table.PageTable.entries g.met.F.SectorFlash.sectors_left
          (g.F.Flash.state c.pass_turn.new.flash).words c.pass_turn.new.place n room fresh c.in-Ok.ensures.older
          g.met.F.Flash.pages_fit.0 (log.known e);
      found = λ e. absurd (true≢false (sym fresh.ready ∙ e));
    } in is

pub returns-in-Err-PowerLost-clause-log : goal.returns-in-Err-PowerLost-clause-log
returns-in-Err-PowerLost-clause-log g c =
    let unready = c.in-Err-PowerLost.ensures.unready in
    unknown g (goal.at.returns-in-Err-PowerLost-clause-log g c).After-pass_turn c.pass_turn.new.place unready.0
    unready.1

pub returns-in_err-turn-clause-log : goal.returns-in_err-turn-clause-log
returns-in_err-turn-clause-log g c =
    let at = (goal.at.returns-in_err-turn-clause-log g c).After-pass_turn in
    let unready = c.in-Err-Fault.ensures.unready in
    let place = record c.pass_turn.new.place { table = c.area_again.new.table } in
    subst (λ (l : List ℕ). IsSectorLog g.F.Table.PageTable.entries g.F.Flash.PAGES g.F.Flash.SLOTS g.F.Flash.SECTORS
    g.F.Flash.sector_start l place) (sym c.area_again.ensures.words) (unknown g at place unready.0 unready.1)

pub returns-then-turn-was-clause-log : goal.returns-then-turn-was-clause-log
returns-then-turn-was-clause-log g c =
    let slots = g.F.Flash.SLOTS in
    let pages = g.F.Flash.PAGES in
    let sectors = g.F.Flash.SECTORS in
    let start = g.F.Flash.sector_start in
    let fit = g.met.F.Flash.sectors_fit in
    let entries = g.F.Table.PageTable.entries in
    let place = c.args.place.now in
    let table = c.area_again.new.table in
    let m = (g.F.Flash.state c.args.flash.now).words in
    let mid = (g.F.Flash.state c.pass_turn.new.flash).words in
    let after = (g.F.Flash.state c.area_again.new.flash).words in
    let same : after ≡ mid = c.area_again.ensures.words in
    let stays : c.in_ok-turn.turn ≡ place.turn = c.if-turn-was.true in
    let turn : turn_of slots mid ≡ place.turn =
    ap (turn_of slots) (sym same) ∙ sym c.in_ok-turn.ensures.turn.0 ∙ stays in
    let none = c.in-Err-Fault.ensures.unready.1 in
    subst (λ (q : PageMap g.row.F-Table.Denot). IsSectorLog entries pages slots sectors start after q)
    (sym c.put_place.ensures)
    (subst (λ (l : List ℕ). IsSectorLog entries pages slots sectors start l (record place {
      ready = true;
      table = table;
      tried = c.pass_turn.new.place.tried;
      behind = c.pass_turn.new.place.behind;
    })) (sym same)
    (turn_stays pages slots sectors start fit.0 fit.1 fit.2 g.met.F.SectorFlash.sectors_left
    g.met.F.Flash.pages_fit.0 entries m mid place (c.requires.log.known c.requires.ready) g.met.F.Flash.sectors_rise
    g.met.F.Flash.pages_fit.2 (g.met.F.SectorFlash.slots_left place.turn) c.requires.pages c.requires.log.ring
    c.requires.turn c.pass_turn.ensures.elsewhere turn table c.pass_turn.new.place.tried
    c.pass_turn.new.place.behind none
    (subst (λ (l : List ℕ). IsPageTable pages l (base_in slots place.turn) slots (entries table)) same
    (subst (λ (t : ℕ). IsPageTable pages after (base_in slots t) slots (entries table)) stays
    c.in_ok-turn.ensures.index))))

-- the other area still has all pages
pub returns-then-turn-was-clause-moved : goal.returns-then-turn-was-clause-moved
returns-then-turn-was-clause-moved g c = λ failed ready.
    let fit = g.met.F.Flash.sectors_fit in
    let slots = g.F.Flash.SLOTS in
    let pages = g.F.Flash.PAGES in
    let sectors = g.F.Flash.SECTORS in
    let start = g.F.Flash.sector_start in
    let place = c.args.place.now in
    let at = (c.requires.log.known c.requires.ready).place in
    subst (λ (l : List ℕ). HasMovedSteps pages slots sectors start l place.turn) (sym c.area_again.ensures.words)
    (pass_steps pages slots sectors start g.met.F.Flash.sectors_rise fit.0 fit.1 fit.2
    g.met.F.SectorFlash.sectors_left g.met.F.Flash.pages_fit.2 (g.F.Flash.state c.args.flash.now).words place.turn
    (g.met.F.SectorFlash.slots_left place.turn) c.requires.pages (g.F.Flash.state c.pass_turn.new.flash).words
    c.requires.log.ring at.turn at.small c.requires.turn c.pass_turn.ensures.elsewhere)

pub returns-clause-log : goal.returns-clause-log
returns-clause-log g c =
    let slots = g.F.Flash.SLOTS in
    let pages = g.F.Flash.PAGES in
    let sectors = g.F.Flash.SECTORS in
    let start = g.F.Flash.sector_start in
    let fit = g.met.F.Flash.sectors_fit in
    let entries = g.F.Table.PageTable.entries in
    let place = c.args.place.now in
    let table = c.area_again.new.table in
    let m = (g.F.Flash.state c.args.flash.now).words in
    let mid = (g.F.Flash.state c.pass_turn.new.flash).words in
    let after = (g.F.Flash.state c.area_again.new.flash).words in
    let same : after ≡ mid = c.area_again.ensures.words in
    let found : c.in_ok-turn.turn ≡ turn_of slots mid = c.in_ok-turn.ensures.turn.0 ∙ ap (turn_of slots) same in
    let differs : c.in_ok-turn.turn ≢ place.turn = λ e. c.if-turn-was.false e in
    let none = c.in-Err-Fault.ensures.unready.1 in
    let behind : c.spare_slot-behind.result ≡ spare_slot slots sectors start place.turn (steps_of pages) =
    c.spare_slot-behind.ensures.is
    ∙ ap (λ (n : ℕ). spare_slot slots sectors start place.turn n) c.copy_steps.ensures in
    subst (λ (q : PageMap g.row.F-Table.Denot). IsSectorLog entries pages slots sectors start after q)
    (sym c.put_place-2.ensures)
    (subst (λ (l : List ℕ). IsSectorLog entries pages slots sectors start l (record place {
      ready = true;
      table = table;
      turn = c.in_ok-turn.turn;
      next = c.spare_slot-behind.result;
      tried = c.pass_turn.new.place.tried;
      erased = 0;
      copied = 0;
      behind = c.pass_turn.new.place.behind;
      older = 0;
    })) (sym same)
    (turn_passed pages slots sectors start fit.0 fit.1 fit.2 g.met.F.SectorFlash.sectors_left
    g.met.F.Flash.pages_fit.0 entries m mid place (c.requires.log.known c.requires.ready) g.met.F.Flash.sectors_rise
    g.met.F.Flash.pages_fit.2 (g.met.F.SectorFlash.slots_left place.turn) c.requires.pages c.requires.log.ring
    c.requires.turn c.pass_turn.ensures.elsewhere c.in_ok-turn.turn c.spare_slot-behind.result found
    c.in_ok-turn.ensures.turn.1 differs behind table c.pass_turn.new.place.tried c.pass_turn.new.place.behind none
    (subst (λ (l : List ℕ). IsPageTable pages l (base_in slots c.in_ok-turn.turn) slots (entries table)) same
    c.in_ok-turn.ensures.index)))

pub returns-clause-step : goal.returns-clause-step
returns-clause-step g c =
    let slots = g.F.Flash.SLOTS in
    let pages = g.F.Flash.PAGES in
    let sectors = g.F.Flash.SECTORS in
    let start = g.F.Flash.sector_start in
    let turn = c.args.place.now.turn in
    let behind : c.spare_slot-behind.result ≡ spare_slot slots sectors start turn (steps_of pages) =
    c.spare_slot-behind.ensures.is ∙ ap (λ (n : ℕ). spare_slot slots sectors start turn n) c.copy_steps.ensures in
    let fits = g.met.F.SectorFlash.slots_left turn in
    let most = sector_steps_most pages sectors c.in_ok-turn.turn 0 0 g.met.F.SectorFlash.sectors_left in
    subst (λ (q : PageMap g.row.F-Table.Denot). HasTakenStep pages slots sectors q) (sym c.put_place-2.ensures)
    (record { ready = refl; older = refl; room = omega (arith, most, behind, fits) })
