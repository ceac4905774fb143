use Rattle.std.proofs.Common.{◌≡◌, ◌<◌, ◌≤◌, ◌+◌, ◌∙◌, ℕ, false, refl, inl, subst, arith}
use Rattle.flash_device.specs.FlashLogs.{base_in}
use Rattle.flash_device.specs.PageTables.{AreFree}
use Rattle.flash_moves.specs.Paces.{IsCaughtUp, IsRoomy, KeepsPace, extra_of, failed_since, lead_of}
use Rattle.flash_moves.specs.Paces.{lost_since, move_steps_of}
use Rattle.flash_log.specs.laws.Ending.{HasTaken, all_taken, caught_on, ended_pace, failed_stands, found_far}
use Rattle.flash_log.specs.laws.Ending.{looked_anew, will_more, stepped_on_caught, stepped_stands}
use Rattle.flash_log.specs.laws.Ending.{taken_more}
use Rattle.flash_moves.specs.laws.Lighting.{tries_faults}
use Rattle.flash_moves.specs.laws.Pacing.{paced_more}
use Rattle.flash_log.proofs.renewal.end_move.Goals as goal

pub returns-in_err-find_pages-clause-stands : goal.returns-in_err-find_pages-clause-stands
returns-in_err-find_pages-clause-stands g c = λ extra roomy pace.
    let slots = g.F.Flash.SLOTS in
    let pages = g.F.Flash.PAGES in
    let sectors = g.F.Flash.SECTORS in
    let start = g.F.Flash.sector_start in
    let old = g.F.Flash.state c.args.flash.now in
    let found = g.F.Flash.state c.find_pages.new.flash in
    let few : extra ≤ extra_of pages slots sectors = omega (arith, roomy) in
    let p = c.args.place.now in
    will_more pages slots sectors start found.words extra (extra + lost_since old found) c.find_pages.new.place
    (omega arith) (c.find_pages.ensures.stands extra few
    (looked_anew pages slots sectors start g.F.Table.PageTable.entries old.words extra p
    (record p { ready = false; tried = 0 }) c.requires.log refl refl pace))

pub returns-then-SLOTS-place-clause-stands : goal.returns-then-SLOTS-place-clause-stands
returns-then-SLOTS-place-clause-stands g c = λ extra roomy pace.
    let slots = g.F.Flash.SLOTS in
    let pages = g.F.Flash.PAGES in
    let sectors = g.F.Flash.SECTORS in
    let start = g.F.Flash.sector_start in
    let old = g.F.Flash.state c.args.flash.now in
    let found = g.F.Flash.state c.find_pages.new.flash in
    let few : extra ≤ extra_of pages slots sectors = omega (arith, roomy) in
    let p = c.args.place.now in
    let q = c.find_pages.new.place in
    let keeps : KeepsPace pages slots sectors extra q = c.in_ok-find_pages.ensures.in_pace extra few
    (looked_anew pages slots sectors start g.F.Table.PageTable.entries old.words extra p
    (record p { ready = false; tried = 0 }) c.requires.log refl refl pace) in
    inl (paced_more pages slots sectors extra (extra + lost_since old found) q (omega arith) keeps)

pub returns-in_err-copy_older-clause-calm : goal.returns-in_err-copy_older-clause-calm
returns-in_err-copy_older-clause-calm g c = λ has.
    let short = c.if-SLOTS-place.false in
    let far = found_far g.F.Flash.PAGES g.F.Flash.SLOTS g.F.Flash.SECTORS (g.F.Flash.state c.args.flash.now).words
    c.find_pages.new.place c.in_ok-find_pages.ensures.ready (c.in_ok-find_pages.ensures.found refl refl) has in
    absurd (omega (arith, short, far))

pub returns-in_err-copy_older-clause-stands : goal.returns-in_err-copy_older-clause-stands
returns-in_err-copy_older-clause-stands g c = λ extra roomy pace.
    let slots = g.F.Flash.SLOTS in
    let pages = g.F.Flash.PAGES in
    let sectors = g.F.Flash.SECTORS in
    let start = g.F.Flash.sector_start in
    let old = g.F.Flash.state c.args.flash.now in
    let found = g.F.Flash.state c.find_pages.new.flash in
    let few : extra ≤ extra_of pages slots sectors = omega (arith, roomy) in
    let p = c.args.place.now in
    let q = c.find_pages.new.place in
    let keeps : KeepsPace pages slots sectors extra q = c.in_ok-find_pages.ensures.in_pace extra few
    (looked_anew pages slots sectors start g.F.Table.PageTable.entries old.words extra p
    (record p { ready = false; tried = 0 }) c.requires.log refl refl pace) in
    let mid = g.F.Flash.state c.copy_older.new.flash in
    let looked = c.in_ok-find_pages.ensures.light.ok refl in
    let a = looked.faults in
    let b = looked.due in
    failed_stands pages slots sectors start mid.words (extra + lost_since found mid) (extra + lost_since old mid)
    c.copy_older.new.place (omega (arith, a, b)) c.in_err-copy_older.ensures.unready
    (c.copy_older.ensures.stands extra (omega (arith, roomy, a)) keeps)

pub returns-in_err-take_step-clause-calm : goal.returns-in_err-take_step-clause-calm
returns-in_err-take_step-clause-calm g c = λ has.
    let short = c.if-SLOTS-place.false in
    let far = found_far g.F.Flash.PAGES g.F.Flash.SLOTS g.F.Flash.SECTORS (g.F.Flash.state c.args.flash.now).words
    c.find_pages.new.place c.in_ok-find_pages.ensures.ready (c.in_ok-find_pages.ensures.found refl refl) has in
    absurd (omega (arith, short, far))

pub returns-in_err-take_step-clause-stands : goal.returns-in_err-take_step-clause-stands
returns-in_err-take_step-clause-stands g c = λ extra roomy pace.
    let slots = g.F.Flash.SLOTS in
    let pages = g.F.Flash.PAGES in
    let sectors = g.F.Flash.SECTORS in
    let start = g.F.Flash.sector_start in
    let old = g.F.Flash.state c.args.flash.now in
    let found = g.F.Flash.state c.find_pages.new.flash in
    let few : extra ≤ extra_of pages slots sectors = omega (arith, roomy) in
    let p = c.args.place.now in
    let q = c.find_pages.new.place in
    let keeps : KeepsPace pages slots sectors extra q = c.in_ok-find_pages.ensures.in_pace extra few
    (looked_anew pages slots sectors start g.F.Table.PageTable.entries old.words extra p
    (record p { ready = false; tried = 0 }) c.requires.log refl refl pace) in
    let mid = g.F.Flash.state c.copy_older.new.flash in
    let looked = c.in_ok-find_pages.ensures.light.ok refl in
    let a = looked.faults in
    let b = looked.due in
    let more = tries_faults 1 found mid c.copy_older.result c.copy_older.ensures.light in
    let still = (c.in_ok-copy_older.ensures.light.ok refl).due in
    let now = g.F.Flash.state c.loop.flash in
    let was = c.loop.invariant in
    let d = was.steady.due in
    let rise = was.steady.faults in
    let after = g.F.Flash.state c.take_step.new.flash in
    let most = tries_faults 1 now after c.take_step.result c.take_step.ensures.light in
    let r = c.copy_older.new.place in
    let first : ℕ = extra + failed_since old mid in
    let caught : IsCaughtUp pages slots sectors first r = caught_on pages slots sectors start mid.words
    (extra + lost_since found mid) first r (omega (arith, a, b, still, more)) c.in_ok-copy_older.ensures.ready
    (c.copy_older.ensures.stands extra (omega (arith, roomy, a, more, rise, most)) keeps) in
    let taken : HasTaken pages slots sectors (first + failed_since mid now) c.loop.counter c.loop.place =
    was.taken first (omega (arith, roomy, a, more, rise, most)) caught in
    let next : ℕ = first + failed_since mid now in
    stepped_stands pages slots sectors start after.words (next + lost_since now after) (extra + lost_since old after)
    c.take_step.new.place (omega (arith, a, b, still, more, d, rise, most))
    (c.take_step.ensures.stands next (omega (arith, roomy, a, more, rise, most)) taken.caught)

pub returns-in_err-take_step-clause-work : goal.returns-in_err-take_step-clause-work
returns-in_err-take_step-clause-work g c = record {
  operations =
      let looked = c.in_ok-find_pages.ensures.light.ok refl in
      let a = looked.faults in
      let was = c.loop.invariant.operations in
      let found = c.find_pages.ensures.work in
      let copied = c.copy_older.ensures.work.operations in
      let step = c.take_step.ensures.work.operations in
      let lead = c.move_steps-end.ensures in
      let test = c.loop-test.true in
      omega (arith, a, was, found, copied, step, lead, test);
}

pub loop-preserved : goal.loop-preserved
loop-preserved g c =
    let slots = g.F.Flash.SLOTS in
    let pages = g.F.Flash.PAGES in
    let sectors = g.F.Flash.SECTORS in
    let start = g.F.Flash.sector_start in
    let mid = g.F.Flash.state c.copy_older.new.flash in
    let now = g.F.Flash.state c.loop.flash in
    let after = g.F.Flash.state c.take_step.new.flash in
    let was = c.loop.invariant in
    let lit = c.in_ok-take_step.ensures.light.ok refl in
    let rise = was.steady.faults in
    let most = lit.faults in
    let due = lit.due in
    let before = was.operations in
    let work = c.take_step.ensures.work.operations in
    let erased = c.take_step.ensures.erases in
    let erases = was.erases in
    record {
      lit = lit.lit;
      steady = record { lit = lit.lit; due = due ∙ was.steady.due; faults = omega (arith, rise, most) };
      operations = omega (arith, before, work);
      erases = omega (arith, erased, erases);
      words = c.take_step.ensures.words ∙ was.words;
      log = c.take_step.ensures.log;
      ready = c.in_ok-take_step.ensures.ready;
      older = c.in_ok-take_step.ensures.older;
      taken = λ extra roomy caught.
          let taken : HasTaken pages slots sectors (extra + failed_since mid now) c.loop.counter c.loop.place =
          was.taken extra (omega (arith, roomy, rise, most)) caught in
          let next : ℕ = extra + failed_since mid now in
          let room : IsRoomy pages slots sectors (next + failed_since now after) =
          omega (arith, roomy, rise, most) in
          taken_more pages slots sectors next (extra + failed_since mid after) c.loop.counter c.loop.place
          c.take_step.new.place taken
          (λ near. c.in_ok-take_step.ensures.steps next room taken.caught near)
          (λ far. (c.take_step.ensures.idle far).0)
          (stepped_on_caught pages slots sectors start after.words (next + lost_since now after)
          (extra + failed_since mid after) c.take_step.new.place (omega (arith, rise, most, due))
          c.in_ok-take_step.ensures.ready (c.take_step.ensures.stands next room taken.caught));
    }

pub returns-clause-calm : goal.returns-clause-calm
returns-clause-calm g c = λ has.
    let short = c.if-SLOTS-place.false in
    let far = found_far g.F.Flash.PAGES g.F.Flash.SLOTS g.F.Flash.SECTORS (g.F.Flash.state c.args.flash.now).words
    c.find_pages.new.place c.in_ok-find_pages.ensures.ready (c.in_ok-find_pages.ensures.found refl refl) has in
    absurd (omega (arith, short, far))

pub returns-clause-room : goal.returns-clause-room
returns-clause-room g c = λ extra roomy pace.
    let slots = g.F.Flash.SLOTS in
    let pages = g.F.Flash.PAGES in
    let sectors = g.F.Flash.SECTORS in
    let start = g.F.Flash.sector_start in
    let old = g.F.Flash.state c.args.flash.now in
    let found = g.F.Flash.state c.find_pages.new.flash in
    let few : extra ≤ extra_of pages slots sectors = omega (arith, roomy) in
    let p = c.args.place.now in
    let q = c.find_pages.new.place in
    let keeps : KeepsPace pages slots sectors extra q = c.in_ok-find_pages.ensures.in_pace extra few
    (looked_anew pages slots sectors start g.F.Table.PageTable.entries old.words extra p
    (record p { ready = false; tried = 0 }) c.requires.log refl refl pace) in
    let mid = g.F.Flash.state c.copy_older.new.flash in
    let looked = c.in_ok-find_pages.ensures.light.ok refl in
    let a = looked.faults in
    let b = looked.due in
    let more = tries_faults 1 found mid c.copy_older.result c.copy_older.ensures.light in
    let still = (c.in_ok-copy_older.ensures.light.ok refl).due in
    let now = g.F.Flash.state c.loop.flash in
    let was = c.loop.invariant in
    let rise = was.steady.faults in
    let r = c.copy_older.new.place in
    let first : ℕ = extra + failed_since old mid in
    let caught : IsCaughtUp pages slots sectors first r = caught_on pages slots sectors start mid.words
    (extra + lost_since found mid) first r (omega (arith, a, b, still, more)) c.in_ok-copy_older.ensures.ready
    (c.copy_older.ensures.stands extra (omega (arith, roomy, a, more, rise)) keeps) in
    let taken : HasTaken pages slots sectors (first + failed_since mid now) c.loop.counter c.loop.place =
    was.taken first (omega (arith, roomy, a, more, rise)) caught in
    let known = was.log.known was.ready in
    let lead = c.move_steps-end.ensures in
    let test = c.loop-test.false in
    let end = c.loop.auto.counter-end in
    let all : c.loop.counter ≡ move_steps_of pages sectors = omega (arith, lead, test, end) in
    let far : c.loop.place.next + lead_of pages sectors < slots =
    all_taken pages slots sectors (first + failed_since mid now) c.loop.place known.spare.most
    (subst (λ (i : ℕ). HasTaken pages slots sectors (first + failed_since mid now) i c.loop.place) all taken) in
    record {
      next = c.loop.place.next;
      free = subst (λ (t : ℕ). AreFree now.words (base_in slots t) c.loop.place.next slots) known.turn known.free;
      enough = omega (arith, far);
    }

pub returns-clause-stands : goal.returns-clause-stands
returns-clause-stands g c = λ extra roomy pace.
    let slots = g.F.Flash.SLOTS in
    let pages = g.F.Flash.PAGES in
    let sectors = g.F.Flash.SECTORS in
    let start = g.F.Flash.sector_start in
    let old = g.F.Flash.state c.args.flash.now in
    let found = g.F.Flash.state c.find_pages.new.flash in
    let few : extra ≤ extra_of pages slots sectors = omega (arith, roomy) in
    let p = c.args.place.now in
    let q = c.find_pages.new.place in
    let keeps : KeepsPace pages slots sectors extra q = c.in_ok-find_pages.ensures.in_pace extra few
    (looked_anew pages slots sectors start g.F.Table.PageTable.entries old.words extra p
    (record p { ready = false; tried = 0 }) c.requires.log refl refl pace) in
    let mid = g.F.Flash.state c.copy_older.new.flash in
    let looked = c.in_ok-find_pages.ensures.light.ok refl in
    let a = looked.faults in
    let b = looked.due in
    let more = tries_faults 1 found mid c.copy_older.result c.copy_older.ensures.light in
    let still = (c.in_ok-copy_older.ensures.light.ok refl).due in
    let now = g.F.Flash.state c.loop.flash in
    let was = c.loop.invariant in
    let rise = was.steady.faults in
    let r = c.copy_older.new.place in
    let first : ℕ = extra + failed_since old mid in
    let caught : IsCaughtUp pages slots sectors first r = caught_on pages slots sectors start mid.words
    (extra + lost_since found mid) first r (omega (arith, a, b, still, more)) c.in_ok-copy_older.ensures.ready
    (c.copy_older.ensures.stands extra (omega (arith, roomy, a, more, rise)) keeps) in
    let taken : HasTaken pages slots sectors (first + failed_since mid now) c.loop.counter c.loop.place =
    was.taken first (omega (arith, roomy, a, more, rise)) caught in
    let known = was.log.known was.ready in
    let lead = c.move_steps-end.ensures in
    let test = c.loop-test.false in
    let end = c.loop.auto.counter-end in
    let all : c.loop.counter ≡ move_steps_of pages sectors = omega (arith, lead, test, end) in
    let far : c.loop.place.next + lead_of pages sectors < slots =
    all_taken pages slots sectors (first + failed_since mid now) c.loop.place known.spare.most
    (subst (λ (i : ℕ). HasTaken pages slots sectors (first + failed_since mid now) i c.loop.place) all taken) in
    inl (paced_more pages slots sectors (first + failed_since mid now) (extra + lost_since old now) c.loop.place
    (omega (arith, a, more, rise))
    (ended_pace pages slots sectors (first + failed_since mid now) c.loop.place far taken.caught))

pub returns-clause-work : goal.returns-clause-work
returns-clause-work g c = record {
  operations =
      let looked = c.in_ok-find_pages.ensures.light.ok refl in
      let a = looked.faults in
      let was = c.loop.invariant.operations in
      let found = c.find_pages.ensures.work in
      let copied = c.copy_older.ensures.work.operations in
      let lead = c.move_steps-end.ensures in
      let end = c.loop.auto.counter-end in
      omega (arith, a, was, found, copied, lead, end);
}
