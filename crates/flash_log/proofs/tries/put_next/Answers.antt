use Rattle.std.proofs.Common.{◌≡◌, ◌<◌, ◌≤◌, ◌+◌, ◌-◌, ◌*◌, ℕ, refl, sym, ap, subst, inl, inr, ⊎_elim, ◌∙◌, arith}
use Rattle.std.proofs.Common.{true≢false}
use Rattle.std.proofs.lemmas.Bool.{cases_lt}
use Rattle.flash_device.specs.declared.layout.TheConstants.{STEP_PAGES}
use Rattle.flash_log.specs.laws.Keeping.{torn_spare}
use Rattle.flash_device.specs.FlashCalls.{SameElsewhere}
use Rattle.flash_device.specs.FlashLogs.{base_in, find, slot_of}
use Rattle.flash_device.specs.PageTables.{IsPageTable, AreFree}
use Rattle.flash_moves.specs.Paces.{HasStepped, IsInPaceFrom}
use Rattle.flash_moves.specs.laws.Catching.{run_in_pace, run_spare}
use Rattle.flash_moves.specs.laws.Pacing.{paced_put, stepped_paced}
use Rattle.flash_log.specs.laws.Retrying.{on_err}
use Rattle.flash_log.specs.laws.TakingTurns.{found_still, found_takes, next_behind, put_in_area, put_takes}
use Rattle.flash_log.specs.laws.TakingTurns.{tried_takes}
use Rattle.flash_moves.specs.laws.Turns.{turn_same, ring_same}
use Rattle.flash_log.proofs.tries.put_next.Given.{Over}
use Rattle.flash_log.proofs.tries.put_next.Goals.{After-write_run}
use Rattle.flash_log.proofs.tries.put_next.Goals as goal

pub write_run-requires-clause-home : goal.write_run-requires-clause-home
write_run-requires-clause-home g c =
    let slots = g.F.Flash.SLOTS in
    let known = c.requires.log.known c.requires.ready in
    c.home.ensures.is slots ∙ ap (base_in slots) known.turn

pub write_run-requires-clause-index : goal.write_run-requires-clause-index
write_run-requires-clause-index g c =
    let slots = g.F.Flash.SLOTS in
    let pages = g.F.Flash.PAGES in
    let entries = g.F.Table.PageTable.entries in
    let m = (g.F.Flash.state c.args.flash.now).words in
    let place = c.args.place.now in
    let known = c.requires.log.known c.requires.ready in
    subst (λ (b : ℕ). IsPageTable pages m b slots (entries place.table)) (sym (c.home.ensures.is slots)) known.index

pub write_run-requires-clause-free : goal.write_run-requires-clause-free
write_run-requires-clause-free g c =
    let slots = g.F.Flash.SLOTS in
    let m = (g.F.Flash.state c.args.flash.now).words in
    let place = c.args.place.now in
    let known = c.requires.log.known c.requires.ready in
    subst (λ (b : ℕ). AreFree m b place.next slots) (sym (c.home.ensures.is slots)) known.free

pub returns-in_err-write_run-clause-log : goal.returns-in_err-write_run-clause-log
returns-in_err-write_run-clause-log g c =
    let slots = g.F.Flash.SLOTS in
    let m = (g.F.Flash.state c.args.flash.now).words in
    let after = (g.F.Flash.state c.write_run.new.flash).words in
    record {
      ring = ring_same slots m after c.write_run.ensures.marks c.requires.log.ring;
      passed = let room = c.requires.room in omega (arith, room);
      known = λ e. absurd (true≢false (sym e));
    }

-- only the area in use changed
run_elsewhere : (g : Over) (c : After-write_run g)
    → SameElsewhere (g.F.Flash.state c.args.flash.now).words (base_in g.F.Flash.SLOTS c.args.place.now.turn)
    (20 * g.F.Flash.SLOTS) (g.F.Flash.state c.write_run.new.flash).words
run_elsewhere g c =
    let slots = g.F.Flash.SLOTS in
    let m = (g.F.Flash.state c.args.flash.now).words in
    let place = c.args.place.now in
    let after = (g.F.Flash.state c.write_run.new.flash).words in
    put_in_area slots m after (base_in slots place.turn) place.next c.requires.room
    (subst (λ (b : ℕ). SameElsewhere m (slot_of b place.next) 20 after) (c.home.ensures.is slots)
    c.write_run.ensures.elsewhere)

-- and no page left it
run_held : (g : Over) (c : After-write_run g) (q : ℕ)
    → find (g.F.Flash.state c.write_run.new.flash).words (base_in g.F.Flash.SLOTS c.args.place.now.turn)
    g.F.Flash.SLOTS q ≡ 0
    → find (g.F.Flash.state c.args.flash.now).words (base_in g.F.Flash.SLOTS c.args.place.now.turn) g.F.Flash.SLOTS q
    ≡ 0
run_held g c =
    let slots = g.F.Flash.SLOTS in
    let m = (g.F.Flash.state c.args.flash.now).words in
    let after = (g.F.Flash.state c.write_run.new.flash).words in
    subst (λ (b : ℕ). (q : ℕ) → find after b slots q ≡ 0 → find m b slots q ≡ 0) (c.home.ensures.is slots)
    c.write_run.ensures.held

pub returns-clause-log : goal.returns-clause-log
returns-clause-log g c =
    let slots = g.F.Flash.SLOTS in
    let pages = g.F.Flash.PAGES in
    let sectors = g.F.Flash.SECTORS in
    let start = g.F.Flash.sector_start in
    let entries = g.F.Table.PageTable.entries in
    let m = (g.F.Flash.state c.args.flash.now).words in
    let place = c.args.place.now in
    let known = c.requires.log.known c.requires.ready in
    let after = (g.F.Flash.state c.write_run.new.flash).words in
    let fit = g.met.F.Flash.sectors_fit in
    let home = c.home.ensures.is slots in
    let run = (goal.at.returns-clause-log g c).After-write_run in
    let marks = c.write_run.ensures.marks in
    let table = entries c.write_run.new.table in
    let next = place.next + 1 in
    record {
      ring = ring_same slots m after marks c.requires.log.ring;
      passed = let room = c.requires.room in omega (arith, room);
      known = λ _. record {
        turn = known.turn ∙ sym (turn_same slots m after marks);
        small = known.small;
        index = subst (λ (b : ℕ). IsPageTable pages after b slots table) home c.in_ok-write_run.ensures.index;
        free = subst (λ (b : ℕ). AreFree after b next slots) home c.write_run.ensures.free;
        spare = run_spare entries pages slots sectors start g.met.F.Flash.sectors_rise fit.0 fit.1 fit.2 fit.4 m after
            place known (run_elsewhere g run) (run_held g run) c.args.page c.args.first c.args.words.now c.requires.run
            c.requires.own c.older_page-place.result c.older_page-place.ensures.one c.older_page-place.ensures.none
            c.in_ok-write_run.ensures.done;
      };
    }

-- Behind a record, whole or torn, the flash is in pace from the next slot on.
run_pace : (g : Over) (c : After-write_run g) → (extra : ℕ)
    → HasStepped g.F.Flash.PAGES g.F.Flash.SLOTS g.F.Flash.SECTORS extra c.args.place.now
    → IsInPaceFrom g.F.Flash.PAGES g.F.Flash.SLOTS g.F.Flash.SECTORS g.F.Flash.sector_start
    (g.F.Flash.state c.write_run.new.flash).words extra (c.args.place.now.next + 1)
run_pace g c = λ extra stepped.
    let slots = g.F.Flash.SLOTS in
    let pages = g.F.Flash.PAGES in
    let sectors = g.F.Flash.SECTORS in
    let m = (g.F.Flash.state c.args.flash.now).words in
    let place = c.args.place.now in
    let known = c.requires.log.known c.requires.ready in
    let after = (g.F.Flash.state c.write_run.new.flash).words in
    let fit = g.met.F.Flash.sectors_fit in
    let home = c.home.ensures.is slots in
    run_in_pace g.F.Table.PageTable.entries pages slots sectors g.F.Flash.sector_start g.met.F.Flash.sectors_rise fit.0
    fit.1 fit.2 fit.4 m after place known (run_elsewhere g c) (run_held g c) c.args.page c.args.first
    c.args.words.now c.requires.run c.requires.own extra (place.next + 1) (omega arith) stepped
    c.write_run.ensures.marks
    (subst (λ (b : ℕ). AreFree after b (place.next + 1) slots) home c.write_run.ensures.free)
    c.write_run.ensures.whole

pub returns-in_err-write_run-clause-in_pace : goal.returns-in_err-write_run-clause-in_pace
returns-in_err-write_run-clause-in_pace g c = λ extra stepped.
    (run_pace g (goal.at.returns-in_err-write_run-clause-in_pace g c).After-write_run extra stepped).pace

pub returns-clause-in_pace : goal.returns-clause-in_pace
returns-clause-in_pace g c = λ extra stepped.
    (run_pace g (goal.at.returns-clause-in_pace g c).After-write_run extra stepped).pace

pub returns-in_err-write_run-clause-stands : goal.returns-in_err-write_run-clause-stands
returns-in_err-write_run-clause-stands g c = λ extra stepped. inr (
  refl,
  run_pace g (goal.at.returns-in_err-write_run-clause-stands g c).After-write_run extra stepped,
)

pub returns-clause-stands : goal.returns-clause-stands
returns-clause-stands g c = λ extra stepped.
    inl (paced_put g.F.Flash.PAGES g.F.Flash.SLOTS g.F.Flash.SECTORS extra c.args.place.now _ refl refl refl refl refl
    refl (omega arith) stepped)

pub returns-in_err-write_run-clause-slots : goal.returns-in_err-write_run-clause-slots
returns-in_err-write_run-clause-slots g c = λ extra stepped.
    let slots = g.F.Flash.SLOTS in
    let pages = g.F.Flash.PAGES in
    let sectors = g.F.Flash.SECTORS in
    let mid = g.F.Flash.state c.args.flash.now in
    let new = g.F.Flash.state c.write_run.new.flash in
    let q = c.args.place.now in
    let known = c.requires.log.known c.requires.ready in
    let home = c.home.ensures.is slots ∙ ap (base_in slots) known.turn in
    let found = found_still pages slots sectors mid q extra (stepped_paced pages slots sectors extra q stepped)
    (subst (λ (t : ℕ). AreFree mid.words (base_in slots t) q.next slots) known.turn known.free) in
    put_takes pages slots sectors mid mid new q q _ q.next (base_in slots c.home.result) found refl home
    c.write_run.ensures.elsewhere (turn_same slots mid.words new.words c.write_run.ensures.marks)
    c.write_run.ensures.free c.write_run.ensures.work c.write_run.ensures.erases
    (λ free. tried_takes pages slots sectors new _ (q.next + 1) refl (next_behind slots new.words (q.next + 1) free))

pub returns-clause-slots : goal.returns-clause-slots
returns-clause-slots g c = λ extra stepped.
    let slots = g.F.Flash.SLOTS in
    let pages = g.F.Flash.PAGES in
    let sectors = g.F.Flash.SECTORS in
    let mid = g.F.Flash.state c.args.flash.now in
    let new = g.F.Flash.state c.write_run.new.flash in
    let q = c.args.place.now in
    let known = c.requires.log.known c.requires.ready in
    let home = c.home.ensures.is slots ∙ ap (base_in slots) known.turn in
    let found = found_still pages slots sectors mid q extra (stepped_paced pages slots sectors extra q stepped)
    (subst (λ (t : ℕ). AreFree mid.words (base_in slots t) q.next slots) known.turn known.free) in
    let pace = paced_put pages slots sectors extra q _ refl refl refl refl refl refl (omega arith) stepped in
    put_takes pages slots sectors mid mid new q q _ q.next (base_in slots c.home.result) found refl home
    c.write_run.ensures.elsewhere (turn_same slots mid.words new.words c.write_run.ensures.marks)
    c.write_run.ensures.free c.write_run.ensures.work c.write_run.ensures.erases
    (λ free. found_takes pages slots sectors new _ extra pace free)

pub returns-clause-last : goal.returns-clause-last
returns-clause-last g c =
    let slots = g.F.Flash.SLOTS in
    let m = (g.F.Flash.state c.args.flash.now).words in
    let after = (g.F.Flash.state c.write_run.new.flash).words in
    let place = c.args.place.now in
    let known = c.requires.log.known c.requires.ready in
    let room = c.requires.room in
    let home = c.home.ensures.is slots ∙ ap (base_in slots) (known.turn
    ∙ sym (turn_same slots m after c.write_run.ensures.marks)) in
    let last = c.in_ok-write_run.ensures.last in
    let put : place.next + 1 ≡ slots - (slots - (place.next + 1)) = omega (arith, room) in
    ap (λ (b : ℕ). find after b slots c.args.page) (sym home) ∙ last ∙ put

pub returns-in_err-write_run-clause-turn : goal.returns-in_err-write_run-clause-turn
returns-in_err-write_run-clause-turn g c = turn_same g.F.Flash.SLOTS (g.F.Flash.state c.args.flash.now).words
    (g.F.Flash.state c.write_run.new.flash).words c.write_run.ensures.marks

pub returns-clause-turn : goal.returns-clause-turn
returns-clause-turn g c = turn_same g.F.Flash.SLOTS (g.F.Flash.state c.args.flash.now).words
    (g.F.Flash.state c.write_run.new.flash).words c.write_run.ensures.marks

pub returns-in_err-write_run-clause-holds : goal.returns-in_err-write_run-clause-holds
returns-in_err-write_run-clause-holds g c = on_err c.from_residual.result (λ goes_on.
    let slots = g.F.Flash.SLOTS in
    let pages = g.F.Flash.PAGES in
    let sectors = g.F.Flash.SECTORS in
    let start = g.F.Flash.sector_start in
    let entries = g.F.Table.PageTable.entries in
    let m = (g.F.Flash.state c.args.flash.now).words in
    let place = c.args.place.now in
    let known = c.requires.log.known c.requires.ready in
    let after = (g.F.Flash.state c.write_run.new.flash).words in
    let fit = g.met.F.Flash.sectors_fit in
    let home = c.home.ensures.is slots in
    let run = (goal.at.returns-in_err-write_run-clause-holds g c).After-write_run in
    let one = c.older_page-place.ensures.one in
    let none = c.older_page-place.ensures.none in
    record {
      turn = known.turn ∙ sym (turn_same slots m after c.write_run.ensures.marks);
      small = known.small;
      free = subst (λ (b : ℕ). AreFree after b (place.next + 1) slots) home c.write_run.ensures.free;
      spare = torn_spare entries pages slots sectors start g.met.F.Flash.sectors_rise fit.0 fit.1 fit.2 fit.4 m after
          place known (run_elsewhere g run) (run_held g run) c.args.page c.args.first c.args.words.now c.requires.run
          c.requires.own c.older_page-place.result one none c.write_run.ensures.whole;
      own = ⊎_elim
          (λ (lt : c.args.page < STEP_PAGES * place.copied). inr (one lt))
          (λ (ge : STEP_PAGES * place.copied ≤ c.args.page). inl (none ge))
          (cases_lt c.args.page (STEP_PAGES * place.copied));
      goes_on = λ some. let due = goes_on some in omega (arith, due);
    })

pub returns-in_err-write_run-clause-paces : goal.returns-in_err-write_run-clause-paces
returns-in_err-write_run-clause-paces g c = on_err c.from_residual.result (λ extra stepped. record {
  room = let room = stepped.room in omega (arith, room);
  few = stepped.few;
})
