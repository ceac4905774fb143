use Rattle.std.proofs.Common.{◌≡◌, ◌<◌, ◌≤◌, ◌+◌, ◌-◌, ◌*◌, ℕ, refl, sym, subst, ◌∙◌, arith}
use Rattle.flash_device.specs.FlashCalls.{SameElsewhere}
use Rattle.flash_device.specs.FlashLogs.{base_in, slot_of}
use Rattle.flash_device.specs.laws.Marks.{elsewhere_then, elsewhere_wider}
use Rattle.flash_area.specs.Spares.{spare_in}
use Rattle.flash_area.specs.laws.Copying.{area_found}
use Rattle.sector_moves.specs.SectorSpares.{HasSectorCopies}
use Rattle.sector_moves.specs.laws.Filling.{home_same, in_slots, turn_stays, words_stay}
use Rattle.sector_moves.proofs.filling.copy_pages.Goals as goal

pub copy_page-requires-clause-turn : goal.copy_page-requires-clause-turn
copy_page-requires-clause-turn g c =
    let slots = g.F.Flash.SLOTS in
    let m = (g.F.Flash.state c.args.flash.now).words in
    let mid = (g.F.Flash.state c.loop-k.flash).words in
    let some = c.requires.some in
    let within : SameElsewhere m (spare_in slots c.args.turn) (20 * slots) mid =
    in_slots slots m mid (spare_in slots c.args.turn) c.args.next c.args.end (omega (arith, some)) some.1
    c.loop-k.invariant.elsewhere in
    let turn = c.requires.turn in
    (turn.0, turn.1, turn.2 ∙ sym (turn_stays g.F.Flash.PAGES slots m mid c.args.turn within))

pub copy_page-requires-clause-entry : goal.copy_page-requires-clause-entry
copy_page-requires-clause-entry g c =
    let slots = g.F.Flash.SLOTS in
    let pages = g.F.Flash.PAGES in
    let m = (g.F.Flash.state c.args.flash.now).words in
    let mid = (g.F.Flash.state c.loop-k.flash).words in
    let page = c.args.first + c.loop-k.k in
    let some = c.requires.some in
    let within : SameElsewhere m (spare_in slots c.args.turn) (20 * slots) mid =
    in_slots slots m mid (spare_in slots c.args.turn) c.args.next c.args.end (omega (arith, some)) some.1
    c.loop-k.invariant.elsewhere in
    let same = home_same pages slots m mid c.args.turn within in
    let most = c.requires.index.0 in
    let k = c.loop-k-test.true in
    let below : page < pages = omega (arith, most, k) in (
      below,
      c.requires.index.1.each page below ∙ sym (area_found slots m mid (base_in slots c.args.turn) same page),
    )

pub copy_page-requires-clause-free : goal.copy_page-requires-clause-free
copy_page-requires-clause-free g c =
    let room = c.loop-k.invariant.room in
    let some = c.requires.some in
    let less = c.loop-k-test.true in
    let rest = c.loop-k.invariant.rest c.args.end (omega arith) c.requires.free in record {
      within = omega (arith, room, some);
      free = λ s from lt. rest.free s from (omega (arith, lt, some, less));
    }

pub loop-k-preserved : goal.loop-k-preserved
loop-k-preserved g c =
    let slots = g.F.Flash.SLOTS in
    let pages = g.F.Flash.PAGES in
    let a = c.args in
    let m = (g.F.Flash.state a.flash.now).words in
    let mid = (g.F.Flash.state c.loop-k.flash).words in
    let after = (g.F.Flash.state c.copy_page.new.flash).words in
    let base = spare_in slots a.turn in
    let was = c.loop-k.invariant in
    let k = c.loop-k.k in
    let free = c.loop-k.free in
    let n = c.in_ok-free.free in
    let lit = c.in_ok-free.ensures.light.ok refl in
    let most = c.in_ok-free.ensures.most in
    let least = was.least in
    let room = was.room in
    let passed = was.passes in
    let passes = c.in_ok-free.ensures.passes in
    let some = c.requires.some in
    let within : SameElsewhere m base (20 * slots) mid =
    in_slots slots m mid base a.next a.end (omega (arith, some)) some.1 was.elsewhere in
    let less = c.loop-k-test.true in
    let there : a.first + k + 1 ≡ a.first + (k + 1) = omega arith in
    let work = c.copy_page.ensures.work.operations in
    let before = was.operations in
    let faults = lit.faults in
    let rise = was.steady.faults in
    let end = a.end - 16 + k + 1 in
    let inside : end ≤ a.end = omega (arith, less, some) in
    let at = slot_of base a.next in
    let size = 20 * (a.end - a.next) in
    record {
      lit = lit.lit;
      steady = record { lit = lit.lit; due = lit.due ∙ was.steady.due; faults = omega (arith, faults, rise) };
      operations = omega (arith, before, work);
      spends = omega (arith, was.spends, c.in_ok-free.ensures.spends);
      erases = c.copy_page.ensures.erases ∙ was.erases;
      least = omega (arith, least, most);
      passes = omega (arith, passed, passes);
      room = omega (arith, most, some);
      elsewhere = elsewhere_then m mid after at size was.elsewhere
          (elsewhere_wider mid after (slot_of base free) (20 * (end - free)) at size (omega (arith, least))
          (omega (arith, least, some, room, less)) c.copy_page.ensures.elsewhere);
      rest = λ below le are.
          c.in_ok-free.ensures.free below (omega (arith, inside, le)) (was.rest below le are);
      copies = λ below words le named are has.
          subst (λ (j : ℕ). HasSectorCopies pages slots after words (base_in slots a.turn) base below j 0) there
          (c.in_ok-free.ensures.copies below words (omega (arith, inside, le))
          (named ∙ sym (words_stay pages slots m mid a.turn within c.requires.turn.2)) (was.rest below le are)
          (was.copies below words le named are has));
    }
