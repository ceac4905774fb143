use Rattle.std.proofs.Common.{◌≡◌, ◌<◌, ◌≤◌, ◌+◌, ◌-◌, ◌*◌, ℕ, refl, sym, subst, ◌∙◌, arith}
use Rattle.flash_device.specs.FlashLogs.{base_in, words_of}
use Rattle.flash_area.specs.Spares.{HasCopies, spare_in}
use Rattle.flash_area.specs.laws.Copying.{area_found}
use Rattle.flash_device.specs.laws.Marks.{elsewhere_then, elsewhere_wider}
use Rattle.flash_moves.specs.laws.Moving.{Stays}
use Rattle.flash_moves.specs.laws.Lighting.{tries_faults}
use Rattle.flash_moves.specs.laws.Sparing.{copies_free, copies_wider, spare_leaves, spare_stays}
use Rattle.flash_moves.proofs.ahead.copy_step.Goals as goal

pub loop-k-init : goal.loop-k-init
loop-k-init g c =
    let slots = g.F.Flash.SLOTS in
    let pages = g.F.Flash.PAGES in
    let m = (g.F.Flash.state c.args.flash.now).words in
    let first = c.args.first in
    let none : first ≡ first + 0 = omega arith in
    let room = c.requires.copies.0 in
    record {
      lit = c.requires.lit;
      steady = record { lit = c.requires.lit; due = refl; faults = omega arith };
      operations = omega arith;
      erases = refl;
      passes = omega arith;
      room = omega (arith, room);
      elsewhere = record { same = λ k out. refl };
      copies = subst (λ (n : ℕ). HasCopies pages slots m (words_of pages slots m) (base_in slots c.args.turn)
          (spare_in slots c.args.turn) n c.args.next 0) none c.requires.copies.1;
      torn = λ fits copied less has. has;
    }

pub loop-k-preserved : goal.loop-k-preserved
loop-k-preserved g c =
    let slots = g.F.Flash.SLOTS in
    let pages = g.F.Flash.PAGES in
    let m = (g.F.Flash.state c.args.flash.now).words in
    let mid = (g.F.Flash.state c.loop-k.flash).words in
    let after = (g.F.Flash.state c.copy_ahead.new.flash).words in
    let old = g.F.Flash.state c.args.flash.now in
    let mid_state = g.F.Flash.state c.loop-k.flash in
    let new = g.F.Flash.state c.copy_ahead.new.flash in
    let base = spare_in slots c.args.turn in
    let was = c.loop-k.invariant in
    let k = c.loop-k.k in
    let lit = c.in_ok-free.ensures.light.ok refl in
    let most = c.in_ok-free.ensures.most in
    let fits = g.met.F.Flash.slots_fit.0 in
    let there : c.args.first + k + 1 ≡ c.args.first + (k + 1) = omega arith in
    let n = c.in_ok-free.free in
    let work = c.copy_ahead.ensures.work.operations in
    let before = was.operations in
    let a = lit.faults in
    let b = was.steady.faults in
    record {
      lit = lit.lit;
      steady = record { lit = lit.lit; due = lit.due ∙ was.steady.due; faults = omega (arith, a, b) };
      operations = omega (arith, before, work);
      erases = c.copy_ahead.ensures.erases ∙ was.erases;
      passes = omega (arith, was.passes, c.in_ok-free.ensures.passes);
      room = omega (arith, most, fits);
      elsewhere = elsewhere_then m mid after base (20 * slots) was.elsewhere c.copy_ahead.ensures.elsewhere;
      copies = subst (λ (j : ℕ). HasCopies pages slots after (words_of pages slots after) (base_in slots c.args.turn)
          base j n 0) there c.in_ok-free.ensures.copies;
      torn = λ fits copied less has.
          let k_less = c.loop-k-test.true in
          let passes = was.passes in
          let one : c.loop-k.free + 1 + (new.faults - mid_state.faults) ≤ slots =
          omega (arith, fits, passes, k_less, a, b) in
          let two : c.args.next + 16 + (mid_state.faults - old.faults) ≤ slots = omega (arith, fits, a, b) in
          copies_free pages slots after (words_of pages slots after) (base_in slots c.args.turn) base copied
          (c.loop-k.free + 1 + (new.faults - mid_state.faults)) 0 n c.in_ok-free.ensures.copies.free
          (c.copy_ahead.ensures.torn one copied (omega (arith, less)) (was.torn two copied less has));
    }

pub copy_ahead-requires-clause-turn : goal.copy_ahead-requires-clause-turn
copy_ahead-requires-clause-turn g c =
    let slots = g.F.Flash.SLOTS in
    let pages = g.F.Flash.PAGES in
    let m = (g.F.Flash.state c.args.flash.now).words in
    let mid = (g.F.Flash.state c.loop-k.flash).words in
    let base = spare_in slots c.args.turn in
    let stays : Stays pages slots m mid =
    spare_stays pages slots m mid c.args.turn c.requires.moves.2 c.requires.turn c.requires.moves.0 c.requires.moves.1
    (elsewhere_wider m mid base (20 * slots) base (20 * slots + 2) (omega arith) (omega arith)
    c.loop-k.invariant.elsewhere) in
    c.requires.turn ∙ sym stays.turn

pub copy_ahead-requires-clause-moves : goal.copy_ahead-requires-clause-moves
copy_ahead-requires-clause-moves g c =
    let slots = g.F.Flash.SLOTS in
    let pages = g.F.Flash.PAGES in
    let m = (g.F.Flash.state c.args.flash.now).words in
    let mid = (g.F.Flash.state c.loop-k.flash).words in
    let base = spare_in slots c.args.turn in
    let stays : Stays pages slots m mid =
    spare_stays pages slots m mid c.args.turn c.requires.moves.2 c.requires.turn c.requires.moves.0 c.requires.moves.1
    (elsewhere_wider m mid base (20 * slots) base (20 * slots + 2) (omega arith) (omega arith)
    c.loop-k.invariant.elsewhere) in
    (c.requires.moves.0, c.requires.moves.1, stays.ring)

pub copy_ahead-requires-clause-entry : goal.copy_ahead-requires-clause-entry
copy_ahead-requires-clause-entry g c =
    let slots = g.F.Flash.SLOTS in
    let pages = g.F.Flash.PAGES in
    let m = (g.F.Flash.state c.args.flash.now).words in
    let mid = (g.F.Flash.state c.loop-k.flash).words in
    let base = spare_in slots c.args.turn in
    let page = c.args.first + c.loop-k.k in
    let same = spare_leaves slots m mid c.args.turn
    (elsewhere_wider m mid base (20 * slots) base (20 * slots + 2) (omega arith) (omega arith)
    c.loop-k.invariant.elsewhere) in
    let most = c.requires.index.0 in
    let k = c.loop-k-test.true in
    let below : page < pages = omega (arith, most, k) in (
      below,
      c.requires.index.1.each page below
          ∙ sym (area_found slots m mid (base_in slots c.args.turn) same page),
    )

pub returns-in_err-free-clause-torn : goal.returns-in_err-free-clause-torn
returns-in_err-free-clause-torn g c = λ fits copied less has.
    let slots = g.F.Flash.SLOTS in
    let pages = g.F.Flash.PAGES in
    let old = g.F.Flash.state c.args.flash.now in
    let mid = g.F.Flash.state c.loop-k.flash in
    let new = g.F.Flash.state c.copy_ahead.new.flash in
    let after = new.words in
    let was = c.loop-k.invariant in
    let k = c.loop-k-test.true in
    let rise = was.steady.faults in
    let passes = was.passes in
    let more = tries_faults 1 mid new c.copy_ahead.result c.copy_ahead.ensures.light in
    let one : c.loop-k.free + 1 + (new.faults - mid.faults) ≤ slots = omega (arith, fits, passes, k, rise, more) in
    let two : c.args.next + 16 + (mid.faults - old.faults) ≤ slots = omega (arith, fits, rise, more) in
    copies_wider pages slots after (words_of pages slots after) (base_in slots c.args.turn) (spare_in slots c.args.turn)
    copied (c.loop-k.free + 1 + (new.faults - mid.faults)) 0 (c.args.next + 16 + (new.faults - old.faults))
    (omega (arith, passes, k, rise, more)) fits
    (c.copy_ahead.ensures.torn one copied (omega (arith, less)) (was.torn two copied less has))

pub returns-clause-torn : goal.returns-clause-torn
returns-clause-torn g c = λ fits copied less has.
    let slots = g.F.Flash.SLOTS in
    let pages = g.F.Flash.PAGES in
    let old = g.F.Flash.state c.args.flash.now in
    let new = g.F.Flash.state c.loop-k.flash in
    let was = c.loop-k.invariant in
    let passes = was.passes in
    let rise = was.steady.faults in
    copies_wider pages slots new.words (words_of pages slots new.words) (base_in slots c.args.turn)
    (spare_in slots c.args.turn) copied c.loop-k.free 0 (c.args.next + 16 + (new.faults - old.faults))
    (omega (arith, passes, rise)) fits (was.torn fits copied less has)
