use Rattle.std.proofs.Common.{◌≡◌, ◌≤◌, ◌+◌, ◌*◌, length, Err, ap, inl, subst, ◌∙◌, arith}
use Rattle.std.proofs.lemmas.Result.{on_ok_weaker}
use Rattle.nvm_board.specs.declared.board.DeviceErr.{DeviceErr}
use Rattle.flash_device.specs.FlashCalls.{Tries}
use Rattle.flash_device.specs.FlashLogs.{words_of}
use Rattle.flash_area.specs.laws.Words.{length-words}
use Rattle.flash_moves.specs.laws.Writing.{done_again, whole_again}
use Rattle.sector_log.specs.laws.Trying.{beside_again, beside_put, beside_spent, by_bool, fault_handed, free_known}
use Rattle.sector_log.specs.laws.Trying.{free_unknown, tries_after, tries_faults, tries_fit, tries_most}
use Rattle.sector_log.proofs.tries.write_at.Goals as goal

pub returns-in-Ok-clause-whole : goal.returns-in-Ok-clause-whole
returns-in-Ok-clause-whole g c =
    let slots = g.F.Flash.SLOTS in
    let pages = g.F.Flash.PAGES in
    let m = words_of pages slots (g.F.Flash.state c.args.flash.now).words in
    let mid = words_of pages slots (g.F.Flash.state c.loop.flash).words in
    let after = words_of pages slots (g.F.Flash.state c.write_once.new.flash).words in
    let at = 16 * c.args.page + c.args.first in
    let all : length m ≡ 16 * pages = length-words pages slots (g.F.Flash.state c.args.flash.now).words in
    let fits : at + length c.args.words.now ≤ length m = omega (arith, all, c.requires.page, c.requires.run) in
    whole_again m mid after c.args.words.now at fits c.loop.invariant.whole c.write_once.ensures.whole

pub returns-in-Ok-clause-done : goal.returns-in-Ok-clause-done
returns-in-Ok-clause-done g c =
    let slots = g.F.Flash.SLOTS in
    let pages = g.F.Flash.PAGES in
    let m = words_of pages slots (g.F.Flash.state c.args.flash.now).words in
    let mid = words_of pages slots (g.F.Flash.state c.loop.flash).words in
    let after = words_of pages slots (g.F.Flash.state c.write_once.new.flash).words in
    let at = 16 * c.args.page + c.args.first in
    let all : length m ≡ 16 * pages = length-words pages slots (g.F.Flash.state c.args.flash.now).words in
    let fits : at + length c.args.words.now ≤ length m = omega (arith, all, c.requires.page, c.requires.run) in
    done_again m mid after c.args.words.now at fits c.loop.invariant.whole c.in-Ok.ensures.done

pub returns-in-Ok-clause-light : goal.returns-in-Ok-clause-light
returns-in-Ok-clause-light g c =
    tries_after 1 (g.F.Flash.state c.args.flash.now) (g.F.Flash.state c.loop.flash)
    (g.F.Flash.state c.write_once.new.flash) _ c.loop.invariant.steady c.in-Ok.ensures.light

pub returns-in-Err-PowerLost-clause-whole : goal.returns-in-Err-PowerLost-clause-whole
returns-in-Err-PowerLost-clause-whole g c =
    let slots = g.F.Flash.SLOTS in
    let pages = g.F.Flash.PAGES in
    let m = words_of pages slots (g.F.Flash.state c.args.flash.now).words in
    let mid = words_of pages slots (g.F.Flash.state c.loop.flash).words in
    let after = words_of pages slots (g.F.Flash.state c.write_once.new.flash).words in
    let at = 16 * c.args.page + c.args.first in
    let all : length m ≡ 16 * pages = length-words pages slots (g.F.Flash.state c.args.flash.now).words in
    let fits : at + length c.args.words.now ≤ length m = omega (arith, all, c.requires.page, c.requires.run) in
    whole_again m mid after c.args.words.now at fits c.loop.invariant.whole c.write_once.ensures.whole

pub returns-then-not-has_slot-clause-whole : goal.returns-then-not-has_slot-clause-whole
returns-then-not-has_slot-clause-whole g c =
    let slots = g.F.Flash.SLOTS in
    let pages = g.F.Flash.PAGES in
    let m = words_of pages slots (g.F.Flash.state c.args.flash.now).words in
    let mid = words_of pages slots (g.F.Flash.state c.loop.flash).words in
    let after = words_of pages slots (g.F.Flash.state c.write_once.new.flash).words in
    let at = 16 * c.args.page + c.args.first in
    let all : length m ≡ 16 * pages = length-words pages slots (g.F.Flash.state c.args.flash.now).words in
    let fits : at + length c.args.words.now ≤ length m = omega (arith, all, c.requires.page, c.requires.run) in
    whole_again m mid after c.args.words.now at fits c.loop.invariant.whole c.write_once.ensures.whole

pub returns-then-not-has_slot-clause-light : goal.returns-then-not-has_slot-clause-light
returns-then-not-has_slot-clause-light g c =
    let mid = g.F.Flash.state c.loop.flash in
    let new = g.F.Flash.state c.write_once.new.flash in
    tries_after 1 (g.F.Flash.state c.args.flash.now) mid new _ c.loop.invariant.steady
    (subst (λ (e : DeviceErr). Tries 1 mid new (Err e)) c.in-Err-Fault.field-0-is c.in-Err-Fault.ensures.light)

pub returns-then-not-has_slot-clause-tries : goal.returns-then-not-has_slot-clause-tries
returns-then-not-has_slot-clause-tries g c = λ calm.
    let pages = g.F.Flash.PAGES in
    let slots = g.F.Flash.SLOTS in
    let sectors = g.F.Flash.SECTORS in
    let old = g.F.Flash.state c.args.flash.now in
    let new = g.F.Flash.state c.write_once.new.flash in
    let q = c.write_once.new.place in
    let steady = c.loop.invariant.steady.faults in
    let many : old.faults + 8 ≤ new.faults = by_bool q.ready
    (λ ready.
    let moved = (c.loop.invariant.calm calm).0 in
    let next = (c.write_once.ensures.next ready).0 in
    absurd (tries_fit pages slots sectors c.args.place.now q c.loop.counter g.met.F.SectorFlash.sectors_left calm
    c.loop-test.true (omega (arith, moved, next)) (c.has_slot.ensures.no c.if-not-has_slot.true ready)))
    (λ unready.
    let unread = c.in-Err-Fault.ensures.unread (ap Err c.in-Err-Fault.field-0-is) unready in
    omega (arith, unread, steady)) in
    tries_most 1 8 old new _ (λ e. many) (returns-then-not-has_slot-clause-light g c)

pub returns-then-not-has_slot-clause-gives_up : goal.returns-then-not-has_slot-clause-gives_up
returns-then-not-has_slot-clause-gives_up g c = λ e calm.
    let pages = g.F.Flash.PAGES in
    let slots = g.F.Flash.SLOTS in
    let sectors = g.F.Flash.SECTORS in
    let q = c.write_once.new.place in
    by_bool q.ready
    (λ ready.
    let moved = (c.loop.invariant.calm calm).0 in
    let next = (c.write_once.ensures.next ready).0 in
    absurd (tries_fit pages slots sectors c.args.place.now q c.loop.counter g.met.F.SectorFlash.sectors_left calm
    c.loop-test.true (omega (arith, moved, next)) (c.has_slot.ensures.no c.if-not-has_slot.true ready)))
    (λ unready. let none = free_unknown slots q unready in omega (arith, none, calm))

pub returns-in_err-make_ready-clause-keeps_trying : goal.returns-in_err-make_ready-clause-keeps_trying
returns-in_err-make_ready-clause-keeps_trying g c = λ k some room fault.
    c.in_err-make_ready.ensures.keeps_trying k some room (fault_handed _ _ c.from_residual.ensures.1 fault)

pub returns-then-not-has_slot-clause-keeps_trying : goal.returns-then-not-has_slot-clause-keeps_trying
returns-then-not-has_slot-clause-keeps_trying g c = λ k some room e.
    let pages = g.F.Flash.PAGES in
    let slots = g.F.Flash.SLOTS in
    let sectors = g.F.Flash.SECTORS in
    let old = g.F.Flash.state c.args.flash.now in
    let mid = g.F.Flash.state c.loop.flash in
    let new = g.F.Flash.state c.write_once.new.flash in
    let place = c.args.place.now in
    let q = c.write_once.new.place in
    by_bool q.ready
    (λ ready.
    let moved = c.write_once.ensures.next ready in
    let known = (free_known slots place some).0 in
    let more = (c.in-Err-Fault.ensures.light.fault (ap Err c.in-Err-Fault.field-0-is)).1 in
    beside_spent pages slots sectors place q old.faults new.faults k
    (beside_again pages slots sectors place c.loop.place old.faults mid.faults new.faults q
    (c.loop.invariant.beside known) moved.0 moved.2 more)
    ready (c.write_once.ensures.log.known ready).room (c.write_once.ensures.log.known ready).place.spare.most
    (c.has_slot.ensures.no c.if-not-has_slot.true ready) some room)
    (λ unready.
    let steady = c.loop.invariant.steady.faults in
    let unread = c.in-Err-Fault.ensures.unread (ap Err c.in-Err-Fault.field-0-is) unready in
    let many : old.faults + 8 ≤ new.faults = omega (arith, unread, steady) in
    inl many)

pub returns-then-not-has_slot-clause-beside : goal.returns-then-not-has_slot-clause-beside
returns-then-not-has_slot-clause-beside g c = λ some left.
    let slots = g.F.Flash.SLOTS in
    let old = g.F.Flash.state c.args.flash.now in
    let mid = g.F.Flash.state c.loop.flash in
    let new = g.F.Flash.state c.write_once.new.flash in
    let place = c.args.place.now in
    let known = (free_known slots place some).0 in
    let failed = (c.in-Err-Fault.ensures.light.fault (ap Err c.in-Err-Fault.field-0-is)).1 in
    let more : mid.faults ≤ new.faults = omega (arith, failed) in
    beside_put g.F.Flash.PAGES slots g.F.Flash.SECTORS place c.loop.place old new mid.faults c.write_once.new.place
    (c.loop.invariant.beside known)
    (λ ready. let moved = c.write_once.ensures.next ready in (moved.0, moved.2)) more some left

pub loop-preserved : goal.loop-preserved
loop-preserved g c =
    let slots = g.F.Flash.SLOTS in
    let pages = g.F.Flash.PAGES in
    let m = words_of pages slots (g.F.Flash.state c.args.flash.now).words in
    let mid = words_of pages slots (g.F.Flash.state c.loop.flash).words in
    let after = words_of pages slots (g.F.Flash.state c.write_once.new.flash).words in
    let at = 16 * c.args.page + c.args.first in
    let all : length m ≡ 16 * pages = length-words pages slots (g.F.Flash.state c.args.flash.now).words in
    let fits : at + length c.args.words.now ≤ length m = omega (arith, all, c.requires.page, c.requires.run) in
    let was = c.loop.invariant in
    let failed = c.in-Err-Fault.ensures.light.fault (ap Err c.in-Err-Fault.field-0-is) in
    let power = failed.0 in
    let more = failed.1 in
    let steady = was.steady.faults in
    let work = c.write_once.ensures.work in
    let erases = c.write_once.ensures.erases in
    let tried = was.failed in
    let most = was.most in
    let before = was.work in
    let erased = was.erases in
    let slot = c.has_slot.ensures.yes c.if-not-has_slot.false in
    let moved = c.write_once.ensures.next slot.0 in
    let next = moved.0 in record {
      lit = power.lit;
      steady = record {
        lit = power.lit;
        due = power.due ∙ was.steady.due;
        faults = omega (arith, steady, more);
      };
      failed = omega (arith, tried, more);
      most = omega (arith, most, work);
      work = omega (arith, before, work, more);
      erases = omega (arith, erased, erases);
      log = c.write_once.ensures.log;
      takes = record { ready = slot.0; room = slot.1; older = moved.3 };
      beside = λ ready. beside_again pages slots g.F.Flash.SECTORS c.args.place.now c.loop.place
          (g.F.Flash.state c.args.flash.now).faults (g.F.Flash.state c.loop.flash).faults
          (g.F.Flash.state c.write_once.new.flash).faults c.write_once.new.place (was.beside ready) next moved.2 more;
      calm = λ calm.
          let z = was.calm calm in
          let there = z.0 in
          let few = z.1 in
          (omega (arith, there, next), omega (arith, few, work), erases ∙ z.2);
      next = λ same some. absurd (omega (arith, same, steady, more));
      whole = whole_again m mid after c.args.words.now at fits was.whole c.write_once.ensures.whole;
    }

pub returns-clause-whole : goal.returns-clause-whole
returns-clause-whole g c =
    let slots = g.F.Flash.SLOTS in
    let pages = g.F.Flash.PAGES in
    let m = words_of pages slots (g.F.Flash.state c.args.flash.now).words in
    let mid = words_of pages slots (g.F.Flash.state c.loop.flash).words in
    let after = words_of pages slots (g.F.Flash.state c.write_once-2.new.flash).words in
    let at = 16 * c.args.page + c.args.first in
    let all : length m ≡ 16 * pages = length-words pages slots (g.F.Flash.state c.args.flash.now).words in
    let fits : at + length c.args.words.now ≤ length m = omega (arith, all, c.requires.page, c.requires.run) in
    whole_again m mid after c.args.words.now at fits c.loop.invariant.whole c.write_once-2.ensures.whole

pub returns-clause-done : goal.returns-clause-done
returns-clause-done g c =
    let slots = g.F.Flash.SLOTS in
    let pages = g.F.Flash.PAGES in
    let m = words_of pages slots (g.F.Flash.state c.args.flash.now).words in
    let mid = words_of pages slots (g.F.Flash.state c.loop.flash).words in
    let after = words_of pages slots (g.F.Flash.state c.write_once-2.new.flash).words in
    let at = 16 * c.args.page + c.args.first in
    let all : length m ≡ 16 * pages = length-words pages slots (g.F.Flash.state c.args.flash.now).words in
    let fits : at + length c.args.words.now ≤ length m = omega (arith, all, c.requires.page, c.requires.run) in
    on_ok_weaker c.write_once-2.result (done_again m mid after c.args.words.now at fits c.loop.invariant.whole)
    c.write_once-2.ensures.done

pub returns-clause-light : goal.returns-clause-light
returns-clause-light g c =
    tries_after 1 (g.F.Flash.state c.args.flash.now) (g.F.Flash.state c.loop.flash)
    (g.F.Flash.state c.write_once-2.new.flash) c.write_once-2.result c.loop.invariant.steady
    c.write_once-2.ensures.light

pub returns-clause-beside : goal.returns-clause-beside
returns-clause-beside g c = λ some left.
    let slots = g.F.Flash.SLOTS in
    let old = g.F.Flash.state c.args.flash.now in
    let mid = g.F.Flash.state c.loop.flash in
    let new = g.F.Flash.state c.write_once-2.new.flash in
    let place = c.args.place.now in
    let known = (free_known slots place some).0 in
    let more = tries_faults 1 mid new c.write_once-2.result c.write_once-2.ensures.light in
    beside_put g.F.Flash.PAGES slots g.F.Flash.SECTORS place c.loop.place old new mid.faults
    c.write_once-2.new.place (c.loop.invariant.beside known)
    (λ ready. let moved = c.write_once-2.ensures.next ready in (moved.0, moved.2)) more some left
