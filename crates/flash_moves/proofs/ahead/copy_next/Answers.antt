use Rattle.std.proofs.Common.{◌≡◌, ◌≤◌, ◌+◌, ◌-◌, ◌*◌, ℕ, false, refl, sym, subst, inl, inr, ◌∙◌, true≢false, arith}
use Rattle.std.proofs.Common.{IsOk, IsErr, ap}
use Rattle.std.proofs.lemmas.Result.{on_ok_weaker}
use Rattle.flash_device.specs.FlashBlocks.{area_size}
use Rattle.flash_device.specs.FlashCalls.{SameElsewhere}
use Rattle.flash_device.specs.FlashLogs.{base_in, turn_of, words_of}
use Rattle.flash_moves.specs.Paces.{HasMoved, IsInPaceFrom, IsRoomy, failed_since, lead_of, lost_since, lost_slots}
use Rattle.flash_area.specs.Spares.{HasCopies, IsSpare, spare_in}
use Rattle.flash_area.specs.laws.Copying.{area_free}
use Rattle.flash_device.specs.laws.Marks.{elsewhere_wider}
use Rattle.flash_moves.specs.laws.Moving.{Stays}
use Rattle.flash_moves.specs.laws.Lighting.{tries_faults}
use Rattle.flash_moves.specs.laws.Losing.{by_result, copied_takes, copy_in_pace, err_lost, pass_in_pace, stepped_failed}
use Rattle.flash_moves.specs.laws.Pacing.{free_of, from_more, paced_behind, stepped_fresh, stepped_more}
use Rattle.flash_moves.specs.laws.Sparing.{area_home, home_then, index_same, log_anew, pass_home, spare_copied}
use Rattle.flash_moves.specs.laws.Sparing.{spare_leaves, spare_put, spare_stays, two_sides}
use Rattle.flash_moves.proofs.ahead.copy_next.Goals as goal

pub returns-in_err-behind-clause-words : goal.returns-in_err-behind-clause-words
returns-in_err-behind-clause-words g c =
    let slots = g.F.Flash.SLOTS in
    let pages = g.F.Flash.PAGES in
    let m = (g.F.Flash.state c.args.flash.now).words in
    let after = (g.F.Flash.state c.copy_step.new.flash).words in
    let place = c.args.place.now in
    let turn = place.turn in
    let base = spare_in slots turn in
    let known = c.requires.log.known c.requires.ready in
    let wide : SameElsewhere m base (area_size slots) after =
    elsewhere_wider m after base (20 * slots) base (area_size slots) (omega arith) (omega arith)
    c.copy_step.ensures.elsewhere in
    let stays : Stays pages slots m after =
    spare_stays pages slots m after turn c.requires.log.ring known.turn known.small c.requires.moves.0 wide in
    stays.words

pub returns-in_err-behind-clause-log : goal.returns-in_err-behind-clause-log
returns-in_err-behind-clause-log g c =
    let slots = g.F.Flash.SLOTS in
    let pages = g.F.Flash.PAGES in
    let m = (g.F.Flash.state c.args.flash.now).words in
    let after = (g.F.Flash.state c.copy_step.new.flash).words in
    let place = c.args.place.now in
    let turn = place.turn in
    let base = spare_in slots turn in
    let known = c.requires.log.known c.requires.ready in
    let wide : SameElsewhere m base (area_size slots) after =
    elsewhere_wider m after base (20 * slots) base (area_size slots) (omega arith) (omega arith)
    c.copy_step.ensures.elsewhere in
    let stays : Stays pages slots m after =
    spare_stays pages slots m after turn c.requires.log.ring known.turn known.small c.requires.moves.0 wide in
    record {
      ring = stays.ring;
      passed = let passed = c.requires.log.passed in omega (arith, passed);
      known = λ e. absurd (true≢false (sym e));
    }

pub returns-clause-words : goal.returns-clause-words
returns-clause-words g c =
    let slots = g.F.Flash.SLOTS in
    let pages = g.F.Flash.PAGES in
    let m = (g.F.Flash.state c.args.flash.now).words in
    let after = (g.F.Flash.state c.copy_step.new.flash).words in
    let place = c.args.place.now in
    let turn = place.turn in
    let base = spare_in slots turn in
    let known = c.requires.log.known c.requires.ready in
    let wide : SameElsewhere m base (area_size slots) after =
    elsewhere_wider m after base (20 * slots) base (area_size slots) (omega arith) (omega arith)
    c.copy_step.ensures.elsewhere in
    let stays : Stays pages slots m after =
    spare_stays pages slots m after turn c.requires.log.ring known.turn known.small c.requires.moves.0 wide in
    stays.words

pub returns-clause-log : goal.returns-clause-log
returns-clause-log g c =
    let slots = g.F.Flash.SLOTS in
    let pages = g.F.Flash.PAGES in
    let entries = g.F.Table.PageTable.entries in
    let m = (g.F.Flash.state c.args.flash.now).words in
    let after = (g.F.Flash.state c.copy_step.new.flash).words in
    let place = c.args.place.now in
    let turn = place.turn in
    let base = spare_in slots turn in
    let known = c.requires.log.known c.requires.ready in
    let wide : SameElsewhere m base (area_size slots) after =
    elsewhere_wider m after base (20 * slots) base (area_size slots) (omega arith) (omega arith)
    c.copy_step.ensures.elsewhere in
    let stays : Stays pages slots m after =
    spare_stays pages slots m after turn c.requires.log.ring known.turn known.small c.requires.moves.0 wide in
    let area = spare_leaves slots m after turn wide in
    let home = base_in slots turn in
    let last = c.if-place-copy_steps.false in
    let steps = c.copy_steps.ensures in
    let most = known.spare.most in
    record {
      ring = stays.ring;
      passed =
          let passed = c.requires.log.passed in
          let free = free_of pages slots g.F.Flash.SECTORS place c.requires.ready in
          omega (arith, passed, free);
      known = λ _. record {
        turn = known.turn ∙ sym stays.turn;
        small = known.small;
        index = index_same slots pages m after (entries place.table) home area known.index;
        free = area_free slots m after home area place.next known.free;
        spare = subst (λ (o : ℕ). IsSpare pages slots g.F.Flash.SECTORS g.F.Flash.sector_start after
            (words_of pages slots after) turn place.erased (place.copied + 1) c.in_ok-behind.behind o)
            (sym c.requires.moves.2)
            (spare_copied pages slots g.F.Flash.SECTORS g.F.Flash.sector_start m after (words_of pages slots m)
            (words_of pages slots after) turn place.erased place.copied place.behind place.older c.in_ok-behind.behind
            c.requires.moves.1 (omega (arith, last, steps, most)) known.spare c.in_ok-behind.ensures.copies);
      };
    }

pub copy_step-requires-clause-index : goal.copy_step-requires-clause-index
copy_step-requires-clause-index g c =
    let known = c.requires.log.known c.requires.ready in
    let most = known.spare.most in
    (omega (arith, most), known.index)

pub copy_step-requires-clause-copies : goal.copy_step-requires-clause-copies
copy_step-requires-clause-copies g c =
    let known = c.requires.log.known c.requires.ready in
    let fits = g.met.F.Flash.slots_fit.0 in
    let room = c.if-place-most.false in
    let slots = g.F.Flash.SLOTS in
    let pages = g.F.Flash.PAGES in
    let m = (g.F.Flash.state c.args.flash.now).words in
    let place = c.args.place.now in (
      omega (arith, fits, room),
      subst (λ (o : ℕ). HasCopies pages slots m (words_of pages slots m) (base_in slots place.turn)
          (spare_in slots place.turn) (16 * place.copied) place.behind o) c.requires.moves.2
          (known.spare.copies c.requires.moves.1),
    )

pub copy_step-requires-clause-moves : goal.copy_step-requires-clause-moves
copy_step-requires-clause-moves g c =
    let known = c.requires.log.known c.requires.ready in
    (known.small, c.requires.moves.0, c.requires.log.ring)

pub pass_turn-requires-clause-turn : goal.pass_turn-requires-clause-turn
pass_turn-requires-clause-turn g c =
    let slots = g.F.Flash.SLOTS in
    let pages = g.F.Flash.PAGES in
    let m = (g.F.Flash.state c.args.flash.now).words in
    let after = (g.F.Flash.state c.copy_step.new.flash).words in
    let place = c.args.place.now in
    let turn = place.turn in
    let base = spare_in slots turn in
    let known = c.requires.log.known c.requires.ready in
    let wide : SameElsewhere m base (area_size slots) after =
    elsewhere_wider m after base (20 * slots) base (area_size slots) (omega arith) (omega arith)
    c.copy_step.ensures.elsewhere in
    let stays : Stays pages slots m after =
    spare_stays pages slots m after turn c.requires.log.ring known.turn known.small c.requires.moves.0 wide in
    known.turn ∙ sym stays.turn

pub pass_turn-requires-clause-moves : goal.pass_turn-requires-clause-moves
pass_turn-requires-clause-moves g c =
    let slots = g.F.Flash.SLOTS in
    let pages = g.F.Flash.PAGES in
    let m = (g.F.Flash.state c.args.flash.now).words in
    let after = (g.F.Flash.state c.copy_step.new.flash).words in
    let place = c.args.place.now in
    let turn = place.turn in
    let base = spare_in slots turn in
    let known = c.requires.log.known c.requires.ready in
    let wide : SameElsewhere m base (area_size slots) after =
    elsewhere_wider m after base (20 * slots) base (area_size slots) (omega arith) (omega arith)
    c.copy_step.ensures.elsewhere in
    let stays : Stays pages slots m after =
    spare_stays pages slots m after turn c.requires.log.ring known.turn known.small c.requires.moves.0 wide in
    (known.small, c.requires.moves.0, stays.ring)

pub pass_turn-requires-clause-copies : goal.pass_turn-requires-clause-copies
pass_turn-requires-clause-copies g c =
    let slots = g.F.Flash.SLOTS in
    let pages = g.F.Flash.PAGES in
    let after = (g.F.Flash.state c.copy_step.new.flash).words in
    let place = c.args.place.now in
    let turn = place.turn in
    let base = spare_in slots turn in
    let last = c.if-place-copy_steps.true in
    let steps = c.copy_steps.ensures in
    let whole = g.met.F.Flash.pages_fit.2 in
    let all : 16 * place.copied + 16 ≡ pages = omega (arith, last, steps, whole) in
    subst (λ (n : ℕ). HasCopies pages slots after (words_of pages slots after) (base_in slots turn) base n
    c.in_ok-behind.behind 0) all c.in_ok-behind.ensures.copies

pub returns-then-place-copy_steps-clause-words : goal.returns-then-place-copy_steps-clause-words
returns-then-place-copy_steps-clause-words g c =
    let slots = g.F.Flash.SLOTS in
    let pages = g.F.Flash.PAGES in
    let m = (g.F.Flash.state c.args.flash.now).words in
    let after = (g.F.Flash.state c.copy_step.new.flash).words in
    let place = c.args.place.now in
    let turn = place.turn in
    let base = spare_in slots turn in
    let known = c.requires.log.known c.requires.ready in
    let wide : SameElsewhere m base (area_size slots) after =
    elsewhere_wider m after base (20 * slots) base (area_size slots) (omega arith) (omega arith)
    c.copy_step.ensures.elsewhere in
    let stays : Stays pages slots m after =
    spare_stays pages slots m after turn c.requires.log.ring known.turn known.small c.requires.moves.0 wide in
    c.pass_turn.ensures.words ∙ stays.words

pub returns-then-place-most-clause-log : goal.returns-then-place-most-clause-log
returns-then-place-most-clause-log g c =
    let slots = g.F.Flash.SLOTS in
    let pages = g.F.Flash.PAGES in
    let sectors = g.F.Flash.SECTORS in
    let start = g.F.Flash.sector_start in
    let fit = g.met.F.Flash.sectors_fit in
    let m = (g.F.Flash.state c.args.flash.now).words in
    log_anew pages slots sectors start g.met.F.Flash.sectors_rise fit.0 fit.1 fit.2 fit.4
    g.met.F.Flash.pages_fit.0 m c.args.place.now c.requires.log

pub returns-then-place-most-clause-steps : goal.returns-then-place-most-clause-steps
returns-then-place-most-clause-steps g c = λ extra roomy pace.
    let pages = g.F.Flash.PAGES in
    let slots = g.F.Flash.SLOTS in
    let sectors = g.F.Flash.SECTORS in
    let known = c.requires.log.known c.requires.ready in
    let fits : IsRoomy pages slots sectors extra = omega (arith, roomy) in
    let below = paced_behind pages slots sectors extra c.args.place.now fits known.spare.most pace in
    let past = c.if-place-most.true in absurd (omega (arith, below, past, fits))

pub returns-then-place-copy_steps-clause-steps : goal.returns-then-place-copy_steps-clause-steps
returns-then-place-copy_steps-clause-steps g c =
    let slots = g.F.Flash.SLOTS in
    let pages = g.F.Flash.PAGES in
    let sectors = g.F.Flash.SECTORS in
    let known = c.requires.log.known c.requires.ready in
    let n = c.in_ok-behind.behind in
    let passes = c.in_ok-behind.ensures.passes in
    let before = (c.in_ok-behind.ensures.light.ok refl).faults in
    let after = tries_faults 1 (g.F.Flash.state c.copy_step.new.flash) (g.F.Flash.state c.pass_turn.new.flash)
    c.pass_turn.result c.pass_turn.ensures.light in
    on_ok_weaker c.pass_turn.result
    (λ (fresh : HasMoved c.pass_turn.new.place n). λ extra roomy pace.
    let fits : IsRoomy pages slots sectors extra = omega (arith, roomy) in
    let below = paced_behind pages slots sectors extra c.args.place.now fits known.spare.most pace in
    let free = fresh.free in
    record { fewer = inr (omega (arith, roomy, free, below, passes, before, after)) })
    c.pass_turn.ensures.fresh

pub returns-clause-steps : goal.returns-clause-steps
returns-clause-steps g c = λ extra roomy pace.
    let most = (c.requires.log.known c.requires.ready).spare.most in
    copied_takes g.F.Flash.PAGES g.F.Flash.SLOTS g.F.Flash.SECTORS c.args.place.now c.in_ok-behind.behind most

pub returns-then-place-most-clause-moves_well : goal.returns-then-place-most-clause-moves_well
returns-then-place-most-clause-moves_well g c = λ extra roomy pace same. record { next = inl refl }

pub returns-then-place-copy_steps-clause-moves_well : goal.returns-then-place-copy_steps-clause-moves_well
returns-then-place-copy_steps-clause-moves_well g c =
    let slots = g.F.Flash.SLOTS in
    let pages = g.F.Flash.PAGES in
    let sectors = g.F.Flash.SECTORS in
    let known = c.requires.log.known c.requires.ready in
    let n = c.in_ok-behind.behind in
    let passes = c.in_ok-behind.ensures.passes in
    let before = (c.in_ok-behind.ensures.light.ok refl).faults in
    let after = tries_faults 1 (g.F.Flash.state c.copy_step.new.flash) (g.F.Flash.state c.pass_turn.new.flash)
    c.pass_turn.result c.pass_turn.ensures.light in
    on_ok_weaker c.pass_turn.result
    (λ (fresh : HasMoved c.pass_turn.new.place n). λ extra roomy pace same.
    let below = paced_behind pages slots sectors extra c.args.place.now roomy known.spare.most pace in
    let free = fresh.free in
    record { next = inr (omega (arith, free, below, passes, before, after, same), fresh.behind) })
    c.pass_turn.ensures.fresh

pub returns-clause-moves_well : goal.returns-clause-moves_well
returns-clause-moves_well g c = λ extra roomy pace same. record { next = inl refl }

pub returns-then-place-most-clause-stands : goal.returns-then-place-most-clause-stands
returns-then-place-most-clause-stands g c = λ extra roomy due pace.
    let pages = g.F.Flash.PAGES in
    let slots = g.F.Flash.SLOTS in
    let sectors = g.F.Flash.SECTORS in
    let known = c.requires.log.known c.requires.ready in
    let fits : IsRoomy pages slots sectors extra = omega (arith, roomy) in
    let below = paced_behind pages slots sectors extra c.args.place.now fits known.spare.most pace in
    let past = c.if-place-most.true in absurd (omega (arith, below, past, fits))

pub returns-in_err-behind-clause-stands : goal.returns-in_err-behind-clause-stands
returns-in_err-behind-clause-stands g c = λ extra roomy due pace.
    let slots = g.F.Flash.SLOTS in
    let pages = g.F.Flash.PAGES in
    let sectors = g.F.Flash.SECTORS in
    let start = g.F.Flash.sector_start in
    let old = g.F.Flash.state c.args.flash.now in
    let step = g.F.Flash.state c.copy_step.new.flash in
    let m = old.words in
    let mid = step.words in
    let failed = step.faults - old.faults in
    let place = c.args.place.now in
    let turn = place.turn in
    let base = spare_in slots turn in
    let known = c.requires.log.known c.requires.ready in
    let wide : SameElsewhere m base (area_size slots) mid =
    elsewhere_wider m mid base (20 * slots) base (area_size slots) (omega arith) (omega arith)
    c.copy_step.ensures.elsewhere in
    let stays : Stays pages slots m mid =
    spare_stays pages slots m mid turn c.requires.log.ring known.turn known.small c.requires.moves.0 wide in
    let area = spare_leaves slots m mid turn wide in
    let was : HasCopies pages slots m (words_of pages slots m) (base_in slots turn) base (16 * place.copied)
    place.behind 0 = subst (λ (o : ℕ). HasCopies pages slots m (words_of pages slots m) (base_in slots turn) base
    (16 * place.copied) place.behind o) c.requires.moves.2 (known.spare.copies c.requires.moves.1) in
    let fits : IsRoomy pages slots sectors extra = omega (arith, roomy) in
    let below = paced_behind pages slots sectors extra place fits known.spare.most pace in
    let room : place.behind + 16 + failed ≤ slots = omega (arith, roomy, below) in
    let lost = err_lost old step _ c.in_err-behind.ensures.light refl in
    inr (
      refl,
      from_more pages slots sectors start mid (extra + (failed + lost_slots)) (extra + lost_since old step)
          place.tried (omega (arith, lost))
          (copy_in_pace pages slots sectors extra start g.F.Table.PageTable.entries m mid place failed known
          c.requires.moves.1 stays area (c.copy_step.ensures.torn room (16 * place.copied) (omega arith) was) pace),
    )

pub returns-then-place-copy_steps-clause-stands : goal.returns-then-place-copy_steps-clause-stands
returns-then-place-copy_steps-clause-stands g c = λ extra roomy due pace.
    let slots = g.F.Flash.SLOTS in
    let pages = g.F.Flash.PAGES in
    let sectors = g.F.Flash.SECTORS in
    let start = g.F.Flash.sector_start in
    let old = g.F.Flash.state c.args.flash.now in
    let step = g.F.Flash.state c.copy_step.new.flash in
    let m = old.words in
    let mid = step.words in
    let failed = step.faults - old.faults in
    let place = c.args.place.now in
    let turn = place.turn in
    let base = spare_in slots turn in
    let known = c.requires.log.known c.requires.ready in
    let wide : SameElsewhere m base (area_size slots) mid =
    elsewhere_wider m mid base (20 * slots) base (area_size slots) (omega arith) (omega arith)
    c.copy_step.ensures.elsewhere in
    let stays : Stays pages slots m mid =
    spare_stays pages slots m mid turn c.requires.log.ring known.turn known.small c.requires.moves.0 wide in
    let area = spare_leaves slots m mid turn wide in
    let was : HasCopies pages slots m (words_of pages slots m) (base_in slots turn) base (16 * place.copied)
    place.behind 0 = subst (λ (o : ℕ). HasCopies pages slots m (words_of pages slots m) (base_in slots turn) base
    (16 * place.copied) place.behind o) c.requires.moves.2 (known.spare.copies c.requires.moves.1) in
    let n = c.in_ok-behind.behind in
    let new = g.F.Flash.state c.pass_turn.new.flash in
    let passes = c.in_ok-behind.ensures.passes in
    let lit = c.in_ok-behind.ensures.light.ok refl in
    let one = lit.faults in
    let less = lit.due in
    let more = tries_faults 1 step new c.pass_turn.result c.pass_turn.ensures.light in
    let fits : IsRoomy pages slots sectors extra = omega (arith, roomy) in
    let below = paced_behind pages slots sectors extra place fits known.spare.most pace in
    let room : place.behind + 16 + failed ≤ slots = omega (arith, roomy, below, one, more) in
    let ends : n + lead_of pages sectors ≤ slots = omega (arith, roomy, below, passes, one, more) in
    let last = c.if-place-copy_steps.true in
    let steps = c.copy_steps.ensures in
    let whole = g.met.F.Flash.pages_fit.2 in
    let all : 16 * place.copied + 16 ≡ pages = omega (arith, last, steps, whole) in
    let has : HasCopies pages slots mid (words_of pages slots mid) (base_in slots turn) base pages n 0 =
    subst (λ (k : ℕ). HasCopies pages slots mid (words_of pages slots mid) (base_in slots turn) base k n 0) all
    c.in_ok-behind.ensures.copies in
    let fit = g.met.F.Flash.sectors_fit in
    let q = c.pass_turn.new.place in
    let given = extra + lost_since old new in
    by_result c.pass_turn.result c.pass_turn.ensures.fresh c.pass_turn.ensures.unready
    (λ (ok : IsOk c.pass_turn.result) (fresh : HasMoved q n).
    inl (stepped_more pages slots sectors (extra + failed_since old new) given q (omega arith)
    (stepped_fresh pages slots sectors (extra + failed_since old new) q n roomy
    (omega (arith, below, passes, one, more)) fresh)))
    (λ (failed_call : IsErr c.pass_turn.result) (unready : (q.ready ≡ false) × (q.tried ≡ 0)).
    let lost = err_lost step new c.pass_turn.result c.pass_turn.ensures.light failed_call in
    inr (
      unready.0,
      subst (λ (t : ℕ). IsInPaceFrom pages slots sectors start new.words given t) (sym unready.1)
          (from_more pages slots sectors start new.words (extra + (failed + lost_slots)) given 0
          (omega (arith, lost, one, less, more))
          (pass_in_pace pages slots sectors extra start g.met.F.Flash.sectors_rise fit.0 fit.1 fit.2 fit.4
          g.met.F.Flash.pages_fit.0 mid new.words place n failed ends stays.ring (known.turn ∙ sym stays.turn)
          known.small c.requires.moves.0 (area_free slots m mid (base_in slots turn) area place.next known.free)
          (spare_put pages slots sectors start m mid (words_of pages slots m) (words_of pages slots mid) turn
          place.erased place.copied place.behind place.older (place.behind + 16 + failed) 0 known.spare (omega arith)
          (c.copy_step.ensures.torn room (16 * place.copied) (omega arith) was) c.requires.moves.1)
          has pace c.pass_turn.ensures.elsewhere)),
    ))

pub returns-clause-stands : goal.returns-clause-stands
returns-clause-stands g c = λ extra roomy due pace.
    let slots = g.F.Flash.SLOTS in
    let pages = g.F.Flash.PAGES in
    let sectors = g.F.Flash.SECTORS in
    let old = g.F.Flash.state c.args.flash.now in
    let new = g.F.Flash.state c.copy_step.new.flash in
    let place = c.args.place.now in
    let known = c.requires.log.known c.requires.ready in
    let last = c.if-place-copy_steps.false in
    let steps = c.copy_steps.ensures in
    let most = known.spare.most in
    let passes = c.in_ok-behind.ensures.passes in
    inl (stepped_failed pages slots sectors extra place c.in_ok-behind.behind (new.faults - old.faults)
    (extra + lost_since old new) (omega (arith, last, steps, most)) due (omega (arith, passes)) (omega arith) pace)

pub returns-in_err-behind-clause-home : goal.returns-in_err-behind-clause-home
returns-in_err-behind-clause-home g c =
    let slots = g.F.Flash.SLOTS in
    let m = (g.F.Flash.state c.args.flash.now).words in
    let after = (g.F.Flash.state c.copy_step.new.flash).words in
    let turn = c.args.place.now.turn in
    let base = spare_in slots turn in
    let known = c.requires.log.known c.requires.ready in
    let wide : SameElsewhere m base (area_size slots) after =
    elsewhere_wider m after base (20 * slots) base (area_size slots) (omega arith) (omega arith)
    c.copy_step.ensures.elsewhere in
    area_home slots m after turn known.turn (spare_leaves slots m after turn wide)

pub returns-clause-home : goal.returns-clause-home
returns-clause-home g c =
    let slots = g.F.Flash.SLOTS in
    let m = (g.F.Flash.state c.args.flash.now).words in
    let after = (g.F.Flash.state c.copy_step.new.flash).words in
    let turn = c.args.place.now.turn in
    let base = spare_in slots turn in
    let known = c.requires.log.known c.requires.ready in
    let wide : SameElsewhere m base (area_size slots) after =
    elsewhere_wider m after base (20 * slots) base (area_size slots) (omega arith) (omega arith)
    c.copy_step.ensures.elsewhere in
    area_home slots m after turn known.turn (spare_leaves slots m after turn wide)

pub returns-then-place-copy_steps-clause-home : goal.returns-then-place-copy_steps-clause-home
returns-then-place-copy_steps-clause-home g c =
    let pages = g.F.Flash.PAGES in
    let slots = g.F.Flash.SLOTS in
    let m = (g.F.Flash.state c.args.flash.now).words in
    let after = (g.F.Flash.state c.copy_step.new.flash).words in
    let turn = c.args.place.now.turn in
    let base = spare_in slots turn in
    let known = c.requires.log.known c.requires.ready in
    let wide : SameElsewhere m base (area_size slots) after =
    elsewhere_wider m after base (20 * slots) base (area_size slots) (omega arith) (omega arith)
    c.copy_step.ensures.elsewhere in
    let new = (g.F.Flash.state c.pass_turn.new.flash).words in
    let stays : Stays pages slots m after =
    spare_stays pages slots m after turn c.requires.log.ring known.turn known.small c.requires.moves.0 wide in
    let is : turn ≡ turn_of slots after = known.turn ∙ sym stays.turn in
    let last = c.if-place-copy_steps.true in
    let steps = c.copy_steps.ensures in
    let whole = g.met.F.Flash.pages_fit.2 in
    let all : 16 * c.args.place.now.copied + 16 ≡ pages = omega (arith, last, steps, whole) in
    let copies = subst (λ (n : ℕ). HasCopies pages slots after (words_of pages slots after) (base_in slots turn) base n
    c.in_ok-behind.behind 0) all c.in_ok-behind.ensures.copies in
    home_then slots m after new (ap (base_in slots) stays.turn)
    (area_home slots m after turn known.turn (spare_leaves slots m after turn wide))
    (area_home slots after new turn is
    (pass_home pages slots after new turn c.in_ok-behind.behind stays.ring is known.small c.requires.moves.0 copies
    c.pass_turn.ensures.elsewhere))

pub returns-then-place-copy_steps-clause-next : goal.returns-then-place-copy_steps-clause-next
returns-then-place-copy_steps-clause-next g c =
    let slots = g.F.Flash.SLOTS in
    let m = (g.F.Flash.state c.args.flash.now).words in
    let after = (g.F.Flash.state c.pass_turn.new.flash).words in
    let turn = c.args.place.now.turn in
    let known = c.requires.log.known c.requires.ready in
    let here : base_in slots turn ≡ base_in slots (turn_of slots m) = ap (base_in slots) known.turn in
    on_ok_weaker c.pass_turn.result
    (λ (there : base_in slots (turn_of slots after) ≡ spare_in slots turn).
    λ same. absurd (two_sides slots turn (sym there ∙ same ∙ sym here)))
    c.pass_turn.ensures.turned
