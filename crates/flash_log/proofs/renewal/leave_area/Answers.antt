use Rattle.std.proofs.Common.{◌≡◌, ◌≢◌, ◌≤◌, ◌+◌, ◌-◌, ◌∙◌, ℕ, true, refl, sym, ap, inl, subst, ⊎_elim, arith}
use Rattle.std.proofs.lemmas.Bool.{cases_eq}
use Rattle.flash_device.specs.declared.flash.TheConstants.{BLANK}
use Rattle.flash_moves.specs.declared.place.PageMap.{PageMap}
use Rattle.flash_device.specs.FlashBlocks.{area_size, steps_of}
use Rattle.flash_device.specs.FlashCalls.{AreFilled}
use Rattle.flash_device.specs.FlashLogs.{base_in}
use Rattle.flash_moves.specs.Paces.{KeepsPace, free_slots}
use Rattle.flash_area.specs.HeldPages.{HavePages}
use Rattle.flash_log.specs.Renewals.{AreClean, HasLastMark, HoldsOnlyPages}
use Rattle.flash_area.specs.Spares.{spare_in}
use Rattle.flash_log.specs.laws.Renewing.{home_held, last_same, only_pages, pace_renewed}
use Rattle.flash_log.specs.laws.Ending.{freed_stands}
use Rattle.flash_moves.specs.laws.Lighting.{lights_faults, tries_faults}
use Rattle.flash_moves.specs.laws.Losing.{free_read, free_then, kept_slots, room_read}
use Rattle.flash_log.proofs.renewal.leave_area.Goals as goal

pub returns-then-branch-clause-only : goal.returns-then-branch-clause-only
returns-then-branch-clause-only g c =
    let slots = g.F.Flash.SLOTS in
    let pages = g.F.Flash.PAGES in
    let mid = (g.F.Flash.state c.move_pages.new.flash).words in
    let after = (g.F.Flash.state c.erase_spare.new.flash).words in
    let p = c.move_pages.new.place in
    let q = c.erase_spare.new.place in
    let step = c.in_ok-erase_spare.ensures.step in
    let turn : q.turn ≡ p.turn = ap (λ (r : PageMap _). r.turn) step in
    let known = c.erase_spare.ensures.log.known (ap (λ (r : PageMap _). r.ready) step) in
    let last : HasLastMark slots after q.turn = subst (HasLastMark slots after) (sym turn)
    (last_same pages slots mid after p.turn c.erase_spare.ensures.elsewhere c.in_ok-move_pages.ensures.last) in
    let blank : AreFilled after (spare_in slots q.turn) (area_size slots) BLANK =
    subst (λ (t : ℕ). AreFilled after (spare_in slots t) (area_size slots) BLANK) (sym turn)
    c.in_ok-erase_spare.ensures.blank in
    let clean : AreClean pages slots after (base_in slots q.turn) q.next =
    subst (λ (b : ℕ). AreClean pages slots after b q.next) (c.home.ensures.is slots)
    (c.in_ok-are_clean.ensures.clean c.if-branch.true) in
    subst (HoldsOnlyPages pages slots) (sym c.are_clean.ensures.words)
    (only_pages pages slots after q.turn q.next c.erase_spare.ensures.log.ring known.turn known.small
    (λ one. c.in_ok-move_pages.ensures.ready.1 (sym turn ∙ one)) last clean known.free blank)

pub returns-clause-light : goal.returns-clause-light
returns-clause-light g c =
    let slots = g.F.Flash.SLOTS in
    let pages = g.F.Flash.PAGES in
    let old = g.F.Flash.state c.args.flash.now in
    let new = g.F.Flash.state c.are_clean.new.flash in
    let mid = (g.F.Flash.state c.move_pages.new.flash).words in
    let after = (g.F.Flash.state c.erase_spare.new.flash).words in
    let p = c.move_pages.new.place in
    let q = c.erase_spare.new.place in
    let step = c.in_ok-erase_spare.ensures.step in
    let moved = c.in_ok-move_pages.ensures.light.ok refl in
    let erased = c.in_ok-erase_spare.ensures.light.ok refl in
    let looked = c.in_ok-are_clean.ensures.light.ok refl in
    let less = moved.faults in
    let more = erased.faults in
    let still = looked.faults in
    let rises : old.faults + 1 ≤ new.faults = ⊎_elim
    (λ (same : new.faults ≡ old.faults).
    let have = home_held pages slots mid after p.turn p.next c.erase_spare.ensures.elsewhere
    (c.in_ok-move_pages.ensures.have (omega (arith, same, less, more, still))) in
    let here : HavePages pages slots after (base_in slots q.turn) q.next =
    subst (λ (r : PageMap _). HavePages pages slots after (base_in slots r.turn) r.next) (sym step) have in
    absurd (c.in_ok-are_clean.ensures.unclean c.if-branch.false
    (subst (λ (b : ℕ). HavePages pages slots after b q.next) (sym (c.home.ensures.is slots)) here)))
    (λ (other : new.faults ≢ old.faults). omega (arith, other, less, more, still))
    (cases_eq new.faults old.faults) in
    record {
      ok = λ h. absurd cc;
      lost = λ h. absurd cc;
      fault = λ h. (
        record {
          lit = looked.lit;
          due = looked.due ∙ erased.due ∙ moved.due;
          faults = omega (arith, less, more, still);
        },
        rises,
      );
    }

pub returns-then-branch-clause-pace : goal.returns-then-branch-clause-pace
returns-then-branch-clause-pace g c = λ roomy few.
    let slots = g.F.Flash.SLOTS in
    let pages = g.F.Flash.PAGES in
    let sectors = g.F.Flash.SECTORS in
    let erased = (c.in_ok-erase_spare.ensures.light.ok refl).faults in
    let looked = (c.in_ok-are_clean.ensures.light.ok refl).faults in
    let passes = c.in_ok-move_pages.ensures.passes in
    let p = c.move_pages.new.place in
    let room : p.next + steps_of pages ≤ slots = omega (arith, roomy, few, erased, looked, passes) in
    subst (KeepsPace pages slots sectors 0) (sym c.in_ok-erase_spare.ensures.step)
    (pace_renewed pages slots sectors (record p { ready = true; erased = sectors; copied = 0; behind = 0; older = 0 })
    refl c.in_ok-move_pages.ensures.ready.1 refl refl refl c.move_pages.ensures.tried room)

pub returns-then-branch-clause-stands : goal.returns-then-branch-clause-stands
returns-then-branch-clause-stands g c = λ roomy has.
    let slots = g.F.Flash.SLOTS in
    let pages = g.F.Flash.PAGES in
    let sectors = g.F.Flash.SECTORS in
    let erased = (c.in_ok-erase_spare.ensures.light.ok refl).faults in
    let looked = (c.in_ok-are_clean.ensures.light.ok refl).faults in
    let passes = c.in_ok-move_pages.ensures.passes in
    let p = c.move_pages.new.place in
    let room : p.next + steps_of pages ≤ slots = omega (arith, roomy, erased, looked, passes) in
    inl (subst (KeepsPace pages slots sectors 0) (sym c.in_ok-erase_spare.ensures.step)
    (pace_renewed pages slots sectors (record p { ready = true; erased = sectors; copied = 0; behind = 0; older = 0 })
    refl c.in_ok-move_pages.ensures.ready.1 refl refl refl c.move_pages.ensures.tried room))

pub returns-in_err-are_clean-clause-stands : goal.returns-in_err-are_clean-clause-stands
returns-in_err-are_clean-clause-stands g c = λ roomy has.
    let slots = g.F.Flash.SLOTS in
    let pages = g.F.Flash.PAGES in
    let sectors = g.F.Flash.SECTORS in
    let erased = (c.in_ok-erase_spare.ensures.light.ok refl).faults in
    let looked = lights_faults (g.F.Flash.state c.erase_spare.new.flash) (g.F.Flash.state c.are_clean.new.flash)
    c.are_clean.result c.are_clean.ensures.light in
    let passes = c.in_ok-move_pages.ensures.passes in
    let p = c.move_pages.new.place in
    let room : p.next + steps_of pages ≤ slots = omega (arith, roomy, erased, looked, passes) in
    inl (subst (KeepsPace pages slots sectors 0) (sym c.in_ok-erase_spare.ensures.step)
    (pace_renewed pages slots sectors (record p { ready = true; erased = sectors; copied = 0; behind = 0; older = 0 })
    refl c.in_ok-move_pages.ensures.ready.1 refl refl refl c.move_pages.ensures.tried room))

pub returns-clause-stands : goal.returns-clause-stands
returns-clause-stands g c = λ roomy has.
    let slots = g.F.Flash.SLOTS in
    let pages = g.F.Flash.PAGES in
    let sectors = g.F.Flash.SECTORS in
    let erased = (c.in_ok-erase_spare.ensures.light.ok refl).faults in
    let looked = lights_faults (g.F.Flash.state c.erase_spare.new.flash) (g.F.Flash.state c.are_clean.new.flash)
    c.are_clean.result c.are_clean.ensures.light in
    let passes = c.in_ok-move_pages.ensures.passes in
    let p = c.move_pages.new.place in
    let room : p.next + steps_of pages ≤ slots = omega (arith, roomy, erased, looked, passes) in
    inl (subst (KeepsPace pages slots sectors 0) (sym c.in_ok-erase_spare.ensures.step)
    (pace_renewed pages slots sectors (record p { ready = true; erased = sectors; copied = 0; behind = 0; older = 0 })
    refl c.in_ok-move_pages.ensures.ready.1 refl refl refl c.move_pages.ensures.tried room))

pub returns-in_err-move_pages-clause-stands : goal.returns-in_err-move_pages-clause-stands
returns-in_err-move_pages-clause-stands g c = λ roomy has.
    let slots = g.F.Flash.SLOTS in
    let pages = g.F.Flash.PAGES in
    let sectors = g.F.Flash.SECTORS in
    let fit = g.met.F.Flash.sectors_fit in
    let old = g.F.Flash.state c.args.flash.now in
    let moved = g.F.Flash.state c.move_pages.new.flash in
    freed_stands pages slots sectors g.F.Flash.sector_start g.met.F.Flash.sectors_rise fit.0 fit.1 fit.2 fit.4
    g.met.F.Flash.pages_fit.0 moved.words c.move_pages.new.place c.in_err-move_pages.ensures.unready
    c.move_pages.ensures.tried (kept_slots pages slots sectors old moved roomy c.move_pages.ensures.keeps_free has)

pub returns-in_err-erase_spare-clause-stands : goal.returns-in_err-erase_spare-clause-stands
returns-in_err-erase_spare-clause-stands g c = λ roomy has.
    let slots = g.F.Flash.SLOTS in
    let pages = g.F.Flash.PAGES in
    let sectors = g.F.Flash.SECTORS in
    let fit = g.met.F.Flash.sectors_fit in
    let old = g.F.Flash.state c.args.flash.now in
    let moved = g.F.Flash.state c.move_pages.new.flash in
    let erased = g.F.Flash.state c.erase_spare.new.flash in
    let less = (c.in_ok-move_pages.ensures.light.ok refl).faults in
    let more = tries_faults 1 moved erased c.erase_spare.result c.erase_spare.ensures.light in
    freed_stands pages slots sectors g.F.Flash.sector_start g.met.F.Flash.sectors_rise fit.0 fit.1 fit.2 fit.4
    g.met.F.Flash.pages_fit.0 erased.words c.erase_spare.new.place c.in_err-erase_spare.ensures.unready
    (c.erase_spare.ensures.tried ∙ c.move_pages.ensures.tried)
    (kept_slots pages slots sectors old erased roomy
    (free_then pages slots old moved erased less more c.move_pages.ensures.keeps_free c.erase_spare.ensures.keeps_free)
    has)

pub returns-then-branch-clause-free : goal.returns-then-branch-clause-free
returns-then-branch-clause-free g c =
    let slots = g.F.Flash.SLOTS in
    let erased = (c.in_ok-erase_spare.ensures.light.ok refl).faults in
    let looked = (c.in_ok-are_clean.ensures.light.ok refl).faults in
    let passes = c.in_ok-move_pages.ensures.passes in
    let free : free_slots slots c.erase_spare.new.place ≡ slots - c.move_pages.new.place.next =
    ap (λ (r : PageMap _). free_slots slots r) c.in_ok-erase_spare.ensures.step in
    omega (arith, free, erased, looked, passes)

pub returns-in_err-move_pages-clause-keeps_free : goal.returns-in_err-move_pages-clause-keeps_free
returns-in_err-move_pages-clause-keeps_free g c = c.move_pages.ensures.keeps_free

pub returns-in_err-erase_spare-clause-keeps_free : goal.returns-in_err-erase_spare-clause-keeps_free
returns-in_err-erase_spare-clause-keeps_free g c =
    let slots = g.F.Flash.SLOTS in
    let pages = g.F.Flash.PAGES in
    let old = g.F.Flash.state c.args.flash.now in
    let moved = g.F.Flash.state c.move_pages.new.flash in
    let erased = g.F.Flash.state c.erase_spare.new.flash in
    let less = (c.in_ok-move_pages.ensures.light.ok refl).faults in
    let more = tries_faults 1 moved erased c.erase_spare.result c.erase_spare.ensures.light in
    free_then pages slots old moved erased less more c.move_pages.ensures.keeps_free c.erase_spare.ensures.keeps_free

pub returns-in_err-are_clean-clause-keeps_free : goal.returns-in_err-are_clean-clause-keeps_free
returns-in_err-are_clean-clause-keeps_free g c =
    let slots = g.F.Flash.SLOTS in
    let pages = g.F.Flash.PAGES in
    let old = g.F.Flash.state c.args.flash.now in
    let moved = g.F.Flash.state c.move_pages.new.flash in
    let erased = g.F.Flash.state c.erase_spare.new.flash in
    let less = (c.in_ok-move_pages.ensures.light.ok refl).faults in
    let more = tries_faults 1 moved erased c.erase_spare.result c.erase_spare.ensures.light in
    let new = g.F.Flash.state c.are_clean.new.flash in
    let most = lights_faults erased new c.are_clean.result c.are_clean.ensures.light in
    free_then pages slots old erased new (omega (arith, less, more)) most
    (free_then pages slots old moved erased less more
    c.move_pages.ensures.keeps_free c.erase_spare.ensures.keeps_free)
    (free_read pages slots erased new c.are_clean.ensures.words)

pub returns-then-branch-clause-keeps_free : goal.returns-then-branch-clause-keeps_free
returns-then-branch-clause-keeps_free g c =
    let slots = g.F.Flash.SLOTS in
    let pages = g.F.Flash.PAGES in
    let old = g.F.Flash.state c.args.flash.now in
    let moved = g.F.Flash.state c.move_pages.new.flash in
    let erased = g.F.Flash.state c.erase_spare.new.flash in
    let less = (c.in_ok-move_pages.ensures.light.ok refl).faults in
    let more = tries_faults 1 moved erased c.erase_spare.result c.erase_spare.ensures.light in
    let new = g.F.Flash.state c.are_clean.new.flash in
    let most = lights_faults erased new c.are_clean.result c.are_clean.ensures.light in
    free_then pages slots old erased new (omega (arith, less, more)) most
    (free_then pages slots old moved erased less more
    c.move_pages.ensures.keeps_free c.erase_spare.ensures.keeps_free)
    (free_read pages slots erased new c.are_clean.ensures.words)

pub returns-clause-keeps_free : goal.returns-clause-keeps_free
returns-clause-keeps_free g c =
    let slots = g.F.Flash.SLOTS in
    let pages = g.F.Flash.PAGES in
    let old = g.F.Flash.state c.args.flash.now in
    let moved = g.F.Flash.state c.move_pages.new.flash in
    let erased = g.F.Flash.state c.erase_spare.new.flash in
    let less = (c.in_ok-move_pages.ensures.light.ok refl).faults in
    let more = tries_faults 1 moved erased c.erase_spare.result c.erase_spare.ensures.light in
    let new = g.F.Flash.state c.are_clean.new.flash in
    let most = lights_faults erased new c.are_clean.result c.are_clean.ensures.light in
    free_then pages slots old erased new (omega (arith, less, more)) most
    (free_then pages slots old moved erased less more
    c.move_pages.ensures.keeps_free c.erase_spare.ensures.keeps_free)
    (free_read pages slots erased new c.are_clean.ensures.words)

pub returns-in_err-move_pages-clause-keeps_room : goal.returns-in_err-move_pages-clause-keeps_room
returns-in_err-move_pages-clause-keeps_room g c = c.move_pages.ensures.keeps_room

pub returns-in_err-erase_spare-clause-keeps_room : goal.returns-in_err-erase_spare-clause-keeps_room
returns-in_err-erase_spare-clause-keeps_room g c = λ n far free.
    c.erase_spare.ensures.keeps_room n far (c.move_pages.ensures.keeps_room n far free)

pub returns-in_err-are_clean-clause-keeps_room : goal.returns-in_err-are_clean-clause-keeps_room
returns-in_err-are_clean-clause-keeps_room g c = λ n far free.
    room_read g.F.Flash.PAGES g.F.Flash.SLOTS (g.F.Flash.state c.erase_spare.new.flash).words
    (g.F.Flash.state c.are_clean.new.flash).words c.are_clean.ensures.words n far
    (c.erase_spare.ensures.keeps_room n far (c.move_pages.ensures.keeps_room n far free))

pub returns-then-branch-clause-keeps_room : goal.returns-then-branch-clause-keeps_room
returns-then-branch-clause-keeps_room g c = λ n far free.
    room_read g.F.Flash.PAGES g.F.Flash.SLOTS (g.F.Flash.state c.erase_spare.new.flash).words
    (g.F.Flash.state c.are_clean.new.flash).words c.are_clean.ensures.words n far
    (c.erase_spare.ensures.keeps_room n far (c.move_pages.ensures.keeps_room n far free))

pub returns-clause-keeps_room : goal.returns-clause-keeps_room
returns-clause-keeps_room g c = λ n far free.
    room_read g.F.Flash.PAGES g.F.Flash.SLOTS (g.F.Flash.state c.erase_spare.new.flash).words
    (g.F.Flash.state c.are_clean.new.flash).words c.are_clean.ensures.words n far
    (c.erase_spare.ensures.keeps_room n far (c.move_pages.ensures.keeps_room n far free))
