use Rattle.std.proofs.Common.{◌≡◌, ◌≢◌, ◌⊎◌, ◌<◌, ◌≤◌, ◌+◌, ◌-◌, ◌*◌, ℕ, List, refl, ap, sym, subst, inl, inr}
use Rattle.std.proofs.Common.{⊎_elim, ◌∙◌, arith}
use Rattle.std.specs.Prelude.{IsErrOf}
use Rattle.nvm_board.specs.declared.board.DeviceErr.TheVariants.{Fault}
use Rattle.std.proofs.Common.{rules, true≢false}
use Rattle.std.proofs.lemmas.Bool.{cases_eq, cases_lt}
use Rattle.std.proofs.lemmas.Result.{on_ok_weaker}
use Rattle.nvm_board.specs.History.{written}
use Rattle.flash_device.specs.FlashCalls.{Tries}
use Rattle.flash_device.specs.FlashLogs.{base_in, turn_of, words_of}
use Rattle.flash_device.specs.PageTables.{AreFree}
use Rattle.flash_moves.specs.Paces.{HasStepped, KeepsPace, OwnsOlder, extra_of, lead_of}
use Rattle.flash_moves.specs.Paces.{move_steps_of, steps_left}
use Rattle.flash_moves.specs.declared.place.PageMap.{PageMap}
use Rattle.flash_moves.specs.Places.{IsPlaceOf, log_value}
use Rattle.flash_area.specs.Spares.{FindsFurthest}
use Rattle.flash_log.specs.KeptParts.{WillPace}
use Rattle.flash_log.specs.SlotsInTurn.{BeginsBy, GivesUp, HasOthersOlder, TakesInTurn, WillTake}
use Rattle.flash_log.specs.laws.Beginning.{begins_at, begins_behind, begins_later, begins_lost, begins_tried}
use Rattle.flash_log.specs.laws.GivingUp.{gives_up_found, others_older_found}
use Rattle.flash_moves.specs.laws.Lighting.{lights_faults, lights_once}
use Rattle.flash_moves.specs.laws.Pacing.{steps_most, tried_within}
use Rattle.flash_log.specs.laws.Keeping.{will_stands}
use Rattle.flash_log.specs.laws.Retrying.{err_holds, lights_tries, tries_behind}
use Rattle.flash_log.specs.laws.TakingTurns.{finds_again, finds_own, finds_takes, finds_then, lost_next, was_lost}
use Rattle.flash_log.proofs.tries.write_again.Given.{Over}
use Rattle.flash_log.proofs.tries.write_again.Goals.{After-keep_own, After-put_next}
use Rattle.flash_log.proofs.tries.write_again.Goals as goal

-- The place is the flash's, however the move began anew.
own_place : (g : Over) (c : After-keep_own g)
    → IsPlaceOf g.F.Table.PageTable.entries g.F.Flash.PAGES g.F.Flash.SLOTS g.F.Flash.SECTORS g.F.Flash.sector_start
    (g.F.Flash.state c.find_again.new.flash).words c.keep_own.new.place
own_place g c =
    let m = (g.F.Flash.state c.find_again.new.flash).words in
    (c.keep_own.ensures.log m c.find_again.ensures.log).known
    (c.keep_own.ensures.same.0 ∙ c.in_ok-find_again.ensures.ready)

-- With the slots of a whole move, its next slot is that of the try, and it is in pace.
own_next : (g : Over) (c : After-keep_own g) (n : ℕ)
    → n + move_steps_of g.F.Flash.PAGES g.F.Flash.SECTORS < g.F.Flash.SLOTS
    → WillTake g.F.Flash.SLOTS (log_value g.F.Flash.PAGES g.F.Flash.SLOTS g.F.Flash.SECTORS
    (g.F.Flash.state c.args.flash.now) c.args.place.now) n
    → (c.keep_own.new.place.next ≡ n) × KeepsPace g.F.Flash.PAGES g.F.Flash.SLOTS g.F.Flash.SECTORS
    c.find_again.new.place.behind c.keep_own.new.place
own_next g c = λ n far takes.
    let slots = g.F.Flash.SLOTS in
    let pages = g.F.Flash.PAGES in
    let sectors = g.F.Flash.SECTORS in
    let old = g.F.Flash.state c.args.flash.now in
    let mid = g.F.Flash.state c.find_again.new.flash in
    let q = c.find_again.new.place in
    let there = c.in_ok-find_again.ensures.ready in
    let known = c.find_again.ensures.log.known there in
    let free : AreFree old.words (base_in slots (turn_of slots old.words)) q.next slots =
    subst (λ (l : List ℕ). AreFree l (base_in slots (turn_of slots l)) q.next slots) c.find_again.ensures.words
    (subst (λ (t : ℕ). AreFree mid.words (base_in slots t) q.next slots) known.turn known.free) in
    let found = finds_again pages slots sectors old c.args.place.now q n there free
    (λ ready. absurd (true≢false (sym ready ∙ c.requires.unready))) c.find_again.ensures.tried
    (λ unready next. c.in_ok-find_again.ensures.next n (omega (arith, far)) next)
    (λ unready. c.in_ok-find_again.ensures.begun) far takes in
    (c.keep_own.ensures.same.1 ∙ found.0, c.keep_own.ensures.paced q.behind found.1)

-- The log is in pace, if it was or will be.
own_pace : (g : Over) (c : After-keep_own g) (extra : ℕ)
    → extra ≤ extra_of g.F.Flash.PAGES g.F.Flash.SLOTS g.F.Flash.SECTORS
    → WillPace c.args.kept.now g.F.Flash.PAGES g.F.Flash.SLOTS g.F.Flash.SECTORS g.F.Flash.sector_start
    (g.F.Flash.state c.args.flash.now).words extra c.args.place.now
    → KeepsPace g.F.Flash.PAGES g.F.Flash.SLOTS g.F.Flash.SECTORS extra c.keep_own.new.place
own_pace g c = λ extra fits stands.
    c.keep_own.ensures.paced extra (c.in_ok-find_again.ensures.in_pace extra fits stands)

-- There was a slot for the record.
full_absurd : (g : Over) (c : After-keep_own g) (n : ℕ)
    → n + move_steps_of g.F.Flash.PAGES g.F.Flash.SECTORS < g.F.Flash.SLOTS
    → WillTake g.F.Flash.SLOTS (log_value g.F.Flash.PAGES g.F.Flash.SLOTS g.F.Flash.SECTORS
    (g.F.Flash.state c.args.flash.now) c.args.place.now) n
    → ¬ (OwnsOlder c.args.page c.keep_own.new.place
    → g.F.Flash.SLOTS ≤ steps_left g.F.Flash.PAGES g.F.Flash.SECTORS c.keep_own.new.place
    + c.keep_own.new.place.next)
full_absurd g c = λ n far takes full.
    let is = own_next g c n far takes in
    let next = is.0 in
    let same = c.keep_own.ensures.same.1 in
    let most = steps_most g.F.Flash.PAGES g.F.Flash.SLOTS g.F.Flash.SECTORS c.keep_own.new.place in
    let all = full (c.keep_own.ensures.own (omega (arith, next, same, far))) in
    omega (arith, all, most, next, far)

pub keep_own-requires-clause-within : goal.keep_own-requires-clause-within
keep_own-requires-clause-within g c =
    (c.find_again.ensures.log.known c.in_ok-find_again.ensures.ready).free.within

pub has_slot-requires-clause-fits : goal.has_slot-requires-clause-fits
has_slot-requires-clause-fits g c =
    let known = own_place g (goal.at.has_slot-requires-clause-fits g c).After-keep_own in
    (known.spare.within, known.spare.most, known.free.within)

pub put_next-requires-clause-log : goal.put_next-requires-clause-log
put_next-requires-clause-log g c =
    c.keep_own.ensures.log (g.F.Flash.state c.find_again.new.flash).words c.find_again.ensures.log

pub put_next-requires-clause-ready : goal.put_next-requires-clause-ready
put_next-requires-clause-ready g c = c.keep_own.ensures.same.0 ∙ c.in_ok-find_again.ensures.ready

pub put_next-requires-clause-own : goal.put_next-requires-clause-own
put_next-requires-clause-own g c = (c.has_slot.ensures.yes c.if-not-has_slot.false).0

pub put_next-requires-clause-room : goal.put_next-requires-clause-room
put_next-requires-clause-room g c = let room = (c.has_slot.ensures.yes c.if-not-has_slot.false).1 in omega (arith, room)

pub returns-in_err-find_again-clause-whole : goal.returns-in_err-find_again-clause-whole
returns-in_err-find_again-clause-whole g c =
    inl (ap (words_of g.F.Flash.PAGES g.F.Flash.SLOTS) c.find_again.ensures.words)

pub returns-in_err-find_again-clause-once : goal.returns-in_err-find_again-clause-once
returns-in_err-find_again-clause-once g c =
    lights_once (g.F.Flash.state c.args.flash.now) (g.F.Flash.state c.find_again.new.flash) c.find_again.result
    c.find_again.ensures.light

pub returns-in_err-find_again-clause-failed : goal.returns-in_err-find_again-clause-failed
returns-in_err-find_again-clause-failed g c = λ failed. record {
  operations =
      let more = lights_faults (g.F.Flash.state c.args.flash.now) (g.F.Flash.state c.find_again.new.flash)
      c.find_again.result c.find_again.ensures.light in
      let work = c.find_again.ensures.work in
      omega (arith, more, work);
}

pub returns-in_err-find_again-clause-slots : goal.returns-in_err-find_again-clause-slots
returns-in_err-find_again-clause-slots g c = λ n far takes.
    let slots = g.F.Flash.SLOTS in
    let pages = g.F.Flash.PAGES in
    let sectors = g.F.Flash.SECTORS in
    let old = g.F.Flash.state c.args.flash.now in
    let mid = g.F.Flash.state c.find_again.new.flash in
    let p = c.args.place.now in
    let q = c.find_again.new.place in
    let lost = c.in_err-find_again.ensures.unready in
    finds_takes slots n _ _
    (lost_next pages slots sectors old mid p q n (was_lost pages slots sectors p q lost
    (λ ready. absurd (true≢false (sym ready ∙ c.requires.unready)))) lost
    c.find_again.ensures.tried c.find_again.ensures.words c.find_again.ensures.work c.find_again.ensures.erases
    (lights_once old mid c.find_again.result c.find_again.ensures.light) takes)

pub returns-then-not-has_slot-clause-whole : goal.returns-then-not-has_slot-clause-whole
returns-then-not-has_slot-clause-whole g c =
    inl (ap (words_of g.F.Flash.PAGES g.F.Flash.SLOTS) c.find_again.ensures.words)

pub returns-then-not-has_slot-clause-log : goal.returns-then-not-has_slot-clause-log
returns-then-not-has_slot-clause-log g c =
    c.keep_own.ensures.log (g.F.Flash.state c.find_again.new.flash).words c.find_again.ensures.log

pub returns-then-not-has_slot-clause-once : goal.returns-then-not-has_slot-clause-once
returns-then-not-has_slot-clause-once g c =
    lights_once (g.F.Flash.state c.args.flash.now) (g.F.Flash.state c.find_again.new.flash) c.find_again.result
    c.find_again.ensures.light

pub returns-then-not-has_slot-clause-failed : goal.returns-then-not-has_slot-clause-failed
returns-then-not-has_slot-clause-failed g c = λ failed. record {
  operations =
      let more = lights_faults (g.F.Flash.state c.args.flash.now) (g.F.Flash.state c.find_again.new.flash)
      c.find_again.result c.find_again.ensures.light in
      let work = c.find_again.ensures.work in
      omega (arith, more, work);
}

pub returns-then-not-has_slot-clause-tries : goal.returns-then-not-has_slot-clause-tries
returns-then-not-has_slot-clause-tries g c = λ n far takes.
    absurd (full_absurd g (goal.at.returns-then-not-has_slot-clause-tries g c).After-keep_own n far takes
    (c.has_slot.ensures.no c.if-not-has_slot.true))

pub returns-then-not-has_slot-clause-slots : goal.returns-then-not-has_slot-clause-slots
returns-then-not-has_slot-clause-slots g c = λ n far takes.
    absurd (full_absurd g (goal.at.returns-then-not-has_slot-clause-slots g c).After-keep_own n far takes
    (c.has_slot.ensures.no c.if-not-has_slot.true))

pub returns-then-not-has_slot-clause-stands : goal.returns-then-not-has_slot-clause-stands
returns-then-not-has_slot-clause-stands g c = λ extra fits stands.
    inl (own_pace g (goal.at.returns-then-not-has_slot-clause-stands g c).After-keep_own extra fits stands)

pub returns-clause-whole : goal.returns-clause-whole
returns-clause-whole g c =
    let slots = g.F.Flash.SLOTS in
    let pages = g.F.Flash.PAGES in
    let after = (g.F.Flash.state c.put_next.new.flash).words in
    let at = 16 * c.args.page + c.args.first in
    subst (λ (l : List ℕ). (words_of pages slots after ≡ words_of pages slots l) ⊎ (words_of pages slots after
    ≡ written (words_of pages slots l) at c.args.words.now)) c.find_again.ensures.words c.put_next.ensures.whole

pub returns-clause-done : goal.returns-clause-done
returns-clause-done g c =
    let slots = g.F.Flash.SLOTS in
    let pages = g.F.Flash.PAGES in
    let mid = words_of pages slots (g.F.Flash.state c.find_again.new.flash).words in
    let after = words_of pages slots (g.F.Flash.state c.put_next.new.flash).words in
    let at = 16 * c.args.page + c.args.first in
    on_ok_weaker c.put_next.result
    (λ (done : after ≡ written mid at c.args.words.now).
    done ∙ ap (λ (l : List ℕ). written (words_of pages slots l) at c.args.words.now) c.find_again.ensures.words)
    c.put_next.ensures.done

-- the record is one try
put_tries : (g : Over) (c : After-put_next g)
    → Tries 1 (g.F.Flash.state c.args.flash.now) (g.F.Flash.state c.put_next.new.flash) c.put_next.result
put_tries g c =
    let mid = g.F.Flash.state c.find_again.new.flash in
    let new = g.F.Flash.state c.put_next.new.flash in
    let is = c.in_ok-find_again.ensures.light.ok refl in
    let same = is.faults in
    tries_behind 0 1 1 (g.F.Flash.state c.args.flash.now) mid new c.put_next.result
    (record { lit = is.lit; due = is.due; faults = omega (arith, same) }) (omega (arith, same)) (omega arith)
    (lights_tries mid new c.put_next.result c.put_next.ensures.light)

pub returns-clause-light : goal.returns-clause-light
returns-clause-light g c =
    let old = g.F.Flash.state c.args.flash.now in
    tries_behind 0 1 0 old old (g.F.Flash.state c.put_next.new.flash) c.put_next.result
    (record { lit = c.requires.lit; due = refl; faults = omega arith }) (omega arith) (omega arith)
    (put_tries g (goal.at.returns-clause-light g c).After-put_next)

pub returns-clause-tries : goal.returns-clause-tries
returns-clause-tries g c = λ n far takes. put_tries g (goal.at.returns-clause-tries g c).After-put_next

pub returns-clause-once : goal.returns-clause-once
returns-clause-once g c =
    let same = (c.in_ok-find_again.ensures.light.ok refl).faults in
    let once = lights_once (g.F.Flash.state c.find_again.new.flash) (g.F.Flash.state c.put_next.new.flash)
    c.put_next.result c.put_next.ensures.light in
    omega (arith, same, once)

pub returns-clause-failed : goal.returns-clause-failed
returns-clause-failed g c = λ failed. record {
  operations =
      let same = (c.in_ok-find_again.ensures.light.ok refl).faults in
      let more = (c.put_next.ensures.light.fault failed).faults in
      let first = c.find_again.ensures.work in
      let work = c.put_next.ensures.work in
      omega (arith, same, more, first, work);
}

-- It has a slot beside those of the steps.
own_stepped : (g : Over) (c : After-put_next g) (extra : ℕ)
    → KeepsPace g.F.Flash.PAGES g.F.Flash.SLOTS g.F.Flash.SECTORS extra c.keep_own.new.place
    → HasStepped g.F.Flash.PAGES g.F.Flash.SLOTS g.F.Flash.SECTORS extra c.keep_own.new.place
own_stepped g c = λ extra pace. record {
  ready = pace.ready;
  room = (c.has_slot.ensures.yes c.if-not-has_slot.false).1;
  few = pace.few;
  goes_on = pace.goes_on;
  passed = pace.passed;
}

pub returns-clause-slots : goal.returns-clause-slots
returns-clause-slots g c = λ n far takes.
    let slots = g.F.Flash.SLOTS in
    let pages = g.F.Flash.PAGES in
    let sectors = g.F.Flash.SECTORS in
    let old = g.F.Flash.state c.args.flash.now in
    let mid = g.F.Flash.state c.find_again.new.flash in
    let new = g.F.Flash.state c.put_next.new.flash in
    let p = c.args.place.now in
    let q = c.keep_own.new.place in
    let extra = c.find_again.new.place.behind in
    let run = (goal.at.returns-clause-slots g c).After-put_next in
    let is = own_next g (goal.at.returns-clause-slots g c).After-keep_own n far takes in
    let known = own_place g (goal.at.returns-clause-slots g c).After-keep_own in
    finds_then slots n 1 (log_value pages slots sectors old p) (log_value pages slots sectors mid q)
    (log_value pages slots sectors new c.put_next.new.place)
    (finds_own pages slots sectors old mid p q n extra c.find_again.ensures.words c.find_again.ensures.work
    c.find_again.ensures.erases (c.in_ok-find_again.ensures.light.ok refl).faults is.0 is.1
    (subst (λ (t : ℕ). AreFree mid.words (base_in slots t) q.next slots) known.turn known.free))
    (subst (λ (k : ℕ). TakesInTurn slots k 1 (log_value pages slots sectors mid q)
    (log_value pages slots sectors new c.put_next.new.place)) is.0
    (c.put_next.ensures.slots extra (own_stepped g run extra is.1)))

pub returns-clause-stands : goal.returns-clause-stands
returns-clause-stands g c = λ extra fits stands. c.put_next.ensures.stands extra
    (own_stepped g (goal.at.returns-clause-stands g c).After-put_next extra
    (own_pace g (goal.at.returns-clause-stands g c).After-keep_own extra fits stands))

-- By what was found no slot is free.
found_full : (g : Over) (c : After-keep_own g)
    → (OwnsOlder c.args.page c.keep_own.new.place
    → g.F.Flash.SLOTS ≤ steps_left g.F.Flash.PAGES g.F.Flash.SECTORS c.keep_own.new.place + c.keep_own.new.place.next)
    → GivesUp g.F.Flash.PAGES g.F.Flash.SLOTS g.F.Flash.SECTORS g.F.Flash.sector_start c.args.page
    (log_value g.F.Flash.PAGES g.F.Flash.SLOTS g.F.Flash.SECTORS (g.F.Flash.state c.find_again.new.flash)
    c.keep_own.new.place)
found_full g c = λ full.
    let slots = g.F.Flash.SLOTS in
    let pages = g.F.Flash.PAGES in
    let sectors = g.F.Flash.SECTORS in
    let start = g.F.Flash.sector_start in
    let mid = g.F.Flash.state c.find_again.new.flash in
    let q = c.find_again.new.place in
    let r = c.keep_own.new.place in
    let next = c.keep_own.ensures.same.1 in
    let known = own_place g c in
    ⊎_elim
    (λ (far : q.next + move_steps_of pages sectors < slots).
    let most = steps_most pages slots sectors r in
    let all = full (c.keep_own.ensures.own far) in
    absurd (omega (arith, all, most, next, far)))
    (λ (near : slots ≤ q.next + move_steps_of pages sectors).
    let same = c.keep_own.ensures.full near in
    ⊎_elim
    (λ (has : OwnsOlder c.args.page q × (steps_left pages sectors q + q.next < slots)).
    let none = subst (λ (z : PageMap g.row.F-Table.Denot). OwnsOlder c.args.page z
    → slots ≤ steps_left pages sectors z + z.next) same full has.0 in
    let some = has.1 in
    absurd (omega (arith, none, some)))
    (λ (finds : slots ≤ q.next + lead_of pages sectors → FindsFurthest pages slots sectors start
    (g.F.Flash.state c.args.flash.now).words q.turn q.next (extra_of pages slots sectors) q.erased q.copied q.older).
    gives_up_found pages slots sectors start mid q r c.args.page same
    (c.keep_own.ensures.same.0 ∙ c.in_ok-find_again.ensures.ready) known.turn
    (subst (λ (t : ℕ). AreFree mid.words (base_in slots t) r.next slots) known.turn known.free)
    (subst (λ (l : List ℕ). FindsFurthest pages slots sectors start l q.turn q.next (extra_of pages slots sectors)
    q.erased q.copied q.older) (sym c.find_again.ensures.words) (finds (omega (arith, near)))) full near)
    c.in_ok-find_again.ensures.furthest)
    (cases_lt (q.next + move_steps_of pages sectors) slots)

-- The copy of another page is older, by what was found.
found_others : (g : Over) (c : After-keep_own g) → ¬ OwnsOlder c.args.page c.keep_own.new.place
    → HasOthersOlder g.F.Flash.PAGES g.F.Flash.SLOTS g.F.Flash.SECTORS g.F.Flash.sector_start
    (g.F.Flash.state c.find_again.new.flash).words c.args.page c.keep_own.new.place.next
found_others g c = λ other.
    let slots = g.F.Flash.SLOTS in
    let pages = g.F.Flash.PAGES in
    let sectors = g.F.Flash.SECTORS in
    let start = g.F.Flash.sector_start in
    let mid = g.F.Flash.state c.find_again.new.flash in
    let q = c.find_again.new.place in
    let r = c.keep_own.new.place in
    ⊎_elim
    (λ (far : q.next + move_steps_of pages sectors < slots). absurd (other (c.keep_own.ensures.own far)))
    (λ (near : slots ≤ q.next + move_steps_of pages sectors).
    let same = c.keep_own.ensures.full near in
    ⊎_elim
    (λ (has : OwnsOlder c.args.page q × (steps_left pages sectors q + q.next < slots)).
    absurd (other (subst (λ (z : PageMap g.row.F-Table.Denot). OwnsOlder c.args.page z) (sym same) has.0)))
    (λ (finds : slots ≤ q.next + lead_of pages sectors → FindsFurthest pages slots sectors start
    (g.F.Flash.state c.args.flash.now).words q.turn q.next (extra_of pages slots sectors) q.erased q.copied q.older).
    others_older_found pages slots sectors start mid q r c.args.page same (own_place g c).turn
    (subst (λ (l : List ℕ). FindsFurthest pages slots sectors start l q.turn q.next (extra_of pages slots sectors)
    q.erased q.copied q.older) (sym c.find_again.ensures.words) (finds (omega (arith, near)))) other near)
    c.in_ok-find_again.ensures.furthest)
    (cases_lt (q.next + move_steps_of pages sectors) slots)

pub returns-then-not-has_slot-clause-no_slot : goal.returns-then-not-has_slot-clause-no_slot
returns-then-not-has_slot-clause-no_slot g c = λ failed ready.
    let older = c.keep_own.new.place.older in
    let full = c.has_slot.ensures.no c.if-not-has_slot.true in
    ⊎_elim
    (λ (none : older ≡ 0). inl (full (inl none)))
    (λ (some : older ≢ 0). ⊎_elim
    (λ (own : older ≡ c.args.page + 1). inl (full (inr own)))
    (λ (other : older ≢ c.args.page + 1).
    inr (found_others g (goal.at.returns-then-not-has_slot-clause-no_slot g c).After-keep_own (⊎_elim some other)))
    (cases_eq older (c.args.page + 1)))
    (cases_eq older 0)

pub returns-in_err-find_again-clause-gives_up : goal.returns-in_err-find_again-clause-gives_up
returns-in_err-find_again-clause-gives_up g c = λ failed ready.
    absurd (true≢false (sym ready ∙ c.in_err-find_again.ensures.unready))

pub returns-in_err-find_again-clause-failed_once : goal.returns-in_err-find_again-clause-failed_once
returns-in_err-find_again-clause-failed_once g c = λ failed unready.
    let is : IsErrOf c.find_again.result Fault = search rules in
    let more = (c.find_again.ensures.light.fault is).faults in
    omega (arith, more)

pub returns-in_err-find_again-clause-slotted : goal.returns-in_err-find_again-clause-slotted
returns-in_err-find_again-clause-slotted g c = λ n far takes failed. c.in_err-find_again.ensures.unready

pub returns-then-not-has_slot-clause-gives_up : goal.returns-then-not-has_slot-clause-gives_up
returns-then-not-has_slot-clause-gives_up g c = λ failed ready.
    found_full g (goal.at.returns-then-not-has_slot-clause-gives_up g c).After-keep_own
    (c.has_slot.ensures.no c.if-not-has_slot.true)

pub returns-then-not-has_slot-clause-failed_once : goal.returns-then-not-has_slot-clause-failed_once
returns-then-not-has_slot-clause-failed_once g c = λ failed unready.
    absurd (true≢false (sym (c.keep_own.ensures.same.0 ∙ c.in_ok-find_again.ensures.ready) ∙ unready))

pub returns-then-not-has_slot-clause-slotted : goal.returns-then-not-has_slot-clause-slotted
returns-then-not-has_slot-clause-slotted g c = λ n far takes failed.
    absurd (full_absurd g (goal.at.returns-then-not-has_slot-clause-slotted g c).After-keep_own n far takes
    (c.has_slot.ensures.no c.if-not-has_slot.true))

pub returns-clause-gives_up : goal.returns-clause-gives_up
returns-clause-gives_up g c = λ failed ready.
    absurd (true≢false (sym ready ∙ err_holds c.put_next.result c.put_next.ensures.unready failed))

pub returns-clause-failed_once : goal.returns-clause-failed_once
returns-clause-failed_once g c = λ failed unready.
    let same = (c.in_ok-find_again.ensures.light.ok refl).faults in
    let more = (c.put_next.ensures.light.fault failed).faults in
    omega (arith, same, more)

pub returns-clause-slotted : goal.returns-clause-slotted
returns-clause-slotted g c = λ n far takes failed.
    err_holds c.put_next.result c.put_next.ensures.unready failed

pub returns-in_err-find_again-clause-turn : goal.returns-in_err-find_again-clause-turn
returns-in_err-find_again-clause-turn g c = ap (turn_of g.F.Flash.SLOTS) c.find_again.ensures.words

pub returns-then-not-has_slot-clause-turn : goal.returns-then-not-has_slot-clause-turn
returns-then-not-has_slot-clause-turn g c = ap (turn_of g.F.Flash.SLOTS) c.find_again.ensures.words

pub returns-clause-turn : goal.returns-clause-turn
returns-clause-turn g c = c.put_next.ensures.turn ∙ ap (turn_of g.F.Flash.SLOTS) c.find_again.ensures.words

pub returns-in_err-find_again-clause-begins : goal.returns-in_err-find_again-clause-begins
returns-in_err-find_again-clause-begins g c = λ extra n fits stands begins.
    begins_later g.F.Flash.SLOTS
    (log_value g.F.Flash.PAGES g.F.Flash.SLOTS g.F.Flash.SECTORS (g.F.Flash.state c.find_again.new.flash)
    c.find_again.new.place) n (n + 1) (omega arith)
    (begins_lost g.F.Flash.PAGES g.F.Flash.SLOTS g.F.Flash.SECTORS (g.F.Flash.state c.args.flash.now)
    (g.F.Flash.state c.find_again.new.flash) c.args.place.now c.find_again.new.place n c.requires.unready
    c.in_err-find_again.ensures.unready c.find_again.ensures.tried c.find_again.ensures.words begins)

pub returns-in_err-find_again-clause-passes : goal.returns-in_err-find_again-clause-passes
returns-in_err-find_again-clause-passes g c = λ failed extra n fits stands begins.
    let old = g.F.Flash.state c.args.flash.now in
    let mid = g.F.Flash.state c.find_again.new.flash in
    begins_later g.F.Flash.SLOTS
    (log_value g.F.Flash.PAGES g.F.Flash.SLOTS g.F.Flash.SECTORS mid c.find_again.new.place) n
    (n + (mid.faults - old.faults)) (omega arith)
    (begins_lost g.F.Flash.PAGES g.F.Flash.SLOTS g.F.Flash.SECTORS old mid c.args.place.now c.find_again.new.place n
    c.requires.unready c.in_err-find_again.ensures.unready c.find_again.ensures.tried c.find_again.ensures.words begins)

-- the slots behind the next one that was found are free, and it is that of the try
own_begins : (g : Over) (c : After-keep_own g) (n : ℕ)
    → BeginsBy g.F.Flash.SLOTS (log_value g.F.Flash.PAGES g.F.Flash.SLOTS g.F.Flash.SECTORS
    (g.F.Flash.state c.args.flash.now) c.args.place.now) n
    → AreFree (g.F.Flash.state c.find_again.new.flash).words
    (base_in g.F.Flash.SLOTS (turn_of g.F.Flash.SLOTS (g.F.Flash.state c.find_again.new.flash).words))
    c.keep_own.new.place.next g.F.Flash.SLOTS × (c.keep_own.new.place.next ≤ n)
own_begins g c = λ n begins.
    let slots = g.F.Flash.SLOTS in
    let pages = g.F.Flash.PAGES in
    let sectors = g.F.Flash.SECTORS in
    let old = g.F.Flash.state c.args.flash.now in
    let mid = g.F.Flash.state c.find_again.new.flash in
    let p = c.args.place.now in
    let r = c.keep_own.new.place in
    let known = own_place g c in
    let free : AreFree mid.words (base_in slots (turn_of slots mid.words)) r.next slots =
    subst (λ (t : ℕ). AreFree mid.words (base_in slots t) r.next slots) known.turn known.free in
    let next = c.keep_own.ensures.same.1 in
    let is = c.in_ok-find_again.ensures.is_next
    (tried_within pages slots sectors p c.requires.log.passed) in
    let most = begins_tried pages slots sectors old p n c.find_again.new.place.next c.requires.unready begins is in
    (free, omega (arith, next, most))

pub returns-then-not-has_slot-clause-begins : goal.returns-then-not-has_slot-clause-begins
returns-then-not-has_slot-clause-begins g c = λ extra n fits stands begins.
    let mid = g.F.Flash.state c.find_again.new.flash in
    let r = c.keep_own.new.place in
    let is = own_begins g (goal.at.returns-then-not-has_slot-clause-begins g c).After-keep_own n begins in
    let most = is.1 in
    begins_at g.F.Flash.PAGES g.F.Flash.SLOTS g.F.Flash.SECTORS mid r r.next (n + 1) is.0 (λ ready. omega arith)
    (λ unready. absurd (true≢false (sym (c.keep_own.ensures.same.0 ∙ c.in_ok-find_again.ensures.ready) ∙ unready)))
    (omega (arith, most))

pub returns-clause-begins : goal.returns-clause-begins
returns-clause-begins g c = λ extra n fits stands begins.
    let slots = g.F.Flash.SLOTS in
    let pages = g.F.Flash.PAGES in
    let sectors = g.F.Flash.SECTORS in
    let mid = g.F.Flash.state c.find_again.new.flash in
    let new = g.F.Flash.state c.put_next.new.flash in
    let r = c.keep_own.new.place in
    let most = (own_begins g (goal.at.returns-clause-begins g c).After-keep_own n begins).1 in
    begins_behind slots r.next 1 (n + 1) (log_value pages slots sectors mid r)
    (log_value pages slots sectors new c.put_next.new.place) (omega (arith, most))
    (c.put_next.ensures.slots extra
    (own_stepped g (goal.at.returns-clause-begins g c).After-put_next extra
    (own_pace g (goal.at.returns-clause-begins g c).After-keep_own extra fits stands)))

pub returns-then-not-has_slot-clause-passes : goal.returns-then-not-has_slot-clause-passes
returns-then-not-has_slot-clause-passes g c = λ failed extra n fits stands begins.
    let old = g.F.Flash.state c.args.flash.now in
    let mid = g.F.Flash.state c.find_again.new.flash in
    let r = c.keep_own.new.place in
    let is = own_begins g (goal.at.returns-then-not-has_slot-clause-passes g c).After-keep_own n begins in
    let most = is.1 in
    begins_at g.F.Flash.PAGES g.F.Flash.SLOTS g.F.Flash.SECTORS mid r r.next (n + (mid.faults - old.faults)) is.0
    (λ ready. omega arith)
    (λ unready. absurd (true≢false (sym (c.keep_own.ensures.same.0 ∙ c.in_ok-find_again.ensures.ready) ∙ unready)))
    (omega (arith, most))

pub returns-clause-passes : goal.returns-clause-passes
returns-clause-passes g c = λ failed extra n fits stands begins.
    let old = g.F.Flash.state c.args.flash.now in
    let new = g.F.Flash.state c.put_next.new.flash in
    let same = (c.in_ok-find_again.ensures.light.ok refl).faults in
    let more = (c.put_next.ensures.light.fault failed).faults in
    begins_later g.F.Flash.SLOTS
    (log_value g.F.Flash.PAGES g.F.Flash.SLOTS g.F.Flash.SECTORS new c.put_next.new.place) (n + 1)
    (n + (new.faults - old.faults)) (omega (arith, same, more))
    (returns-clause-begins g c extra n fits stands begins)

pub returns-clause-holds : goal.returns-clause-holds
returns-clause-holds g c = λ failed unready kept.
    err_holds c.put_next.result c.put_next.ensures.holds failed (λ some.
    let begun = c.in_ok-find_again.ensures.begun (c.keep_own.ensures.begun some) in
    let same = c.keep_own.ensures.same.1 in
    omega (arith, begun, same))

pub returns-clause-keeps : goal.returns-clause-keeps
returns-clause-keeps g c = λ failed unready extra fits will.
    let stepped = own_stepped g (goal.at.returns-clause-keeps g c).After-put_next extra
    (own_pace g (goal.at.returns-clause-keeps g c).After-keep_own extra fits will) in
    record {
      known = λ e. err_holds c.put_next.result c.put_next.ensures.paces failed extra stepped;
      looks = λ e. c.put_next.ensures.stands extra stepped;
    }

pub returns-then-not-has_slot-clause-full : goal.returns-then-not-has_slot-clause-full
returns-then-not-has_slot-clause-full g c = λ failed ready kept.
    let slots = g.F.Flash.SLOTS in
    let pages = g.F.Flash.PAGES in
    let sectors = g.F.Flash.SECTORS in
    let p = c.args.place.now in
    let q = c.find_again.new.place in
    ⊎_elim
    (λ (some : steps_left pages sectors p + p.tried < slots).
    let has = c.in_ok-find_again.ensures.room kept some in
    let none = subst (λ (z : PageMap g.row.F-Table.Denot). OwnsOlder c.args.page z
    → slots ≤ steps_left pages sectors z + z.next) (c.keep_own.ensures.owned has.0)
    (c.has_slot.ensures.no c.if-not-has_slot.true) has.0 in
    let same = has.1 in
    absurd (omega (arith, none, same, some)))
    (λ (none : slots ≤ steps_left pages sectors p + p.tried). none)
    (cases_lt (steps_left pages sectors p + p.tried) slots)

pub returns-then-not-has_slot-clause-untried : goal.returns-then-not-has_slot-clause-untried
returns-then-not-has_slot-clause-untried g c = λ failed ready n begins.
    let mid = g.F.Flash.state c.find_again.new.flash in
    let r = c.keep_own.new.place in
    let is = own_begins g (goal.at.returns-then-not-has_slot-clause-untried g c).After-keep_own n begins in
    let most = is.1 in
    begins_at g.F.Flash.PAGES g.F.Flash.SLOTS g.F.Flash.SECTORS mid r r.next n is.0 (λ ready. omega arith)
    (λ unready. absurd (true≢false (sym (c.keep_own.ensures.same.0 ∙ c.in_ok-find_again.ensures.ready) ∙ unready)))
    (omega (arith, most))

pub returns-clause-full : goal.returns-clause-full
returns-clause-full g c = λ failed ready kept.
    absurd (true≢false (sym ready ∙ err_holds c.put_next.result c.put_next.ensures.unready failed))

pub returns-clause-untried : goal.returns-clause-untried
returns-clause-untried g c = λ failed ready.
    absurd (true≢false (sym ready ∙ err_holds c.put_next.result c.put_next.ensures.unready failed))

-- Behind a search that failed no slot is passed over.
pub returns-in_err-find_again-clause-beside : goal.returns-in_err-find_again-clause-beside
returns-in_err-find_again-clause-beside g c = λ failed unready kept some.
    inr (λ n begins. begins_lost g.F.Flash.PAGES g.F.Flash.SLOTS g.F.Flash.SECTORS (g.F.Flash.state c.args.flash.now)
    (g.F.Flash.state c.find_again.new.flash) c.args.place.now c.find_again.new.place n c.requires.unready
    c.in_err-find_again.ensures.unready c.find_again.ensures.tried c.find_again.ensures.words begins)

pub returns-then-not-has_slot-clause-beside : goal.returns-then-not-has_slot-clause-beside
returns-then-not-has_slot-clause-beside g c = λ failed unready.
    absurd (true≢false (sym (c.keep_own.ensures.same.0 ∙ c.in_ok-find_again.ensures.ready) ∙ unready))

-- A slot was left, so the move that is known goes on.
pub returns-clause-beside : goal.returns-clause-beside
returns-clause-beside g c = λ failed unready kept some.
    let pages = g.F.Flash.PAGES in
    let sectors = g.F.Flash.SECTORS in
    let q = c.find_again.new.place in
    let has = c.in_ok-find_again.ensures.room kept some in
    let own : steps_left pages sectors c.keep_own.new.place + c.keep_own.new.place.next
    ≡ steps_left pages sectors q + q.next =
    ap (λ (z : PageMap g.row.F-Table.Denot). steps_left pages sectors z + z.next) (c.keep_own.ensures.owned has.0) in
    let same = has.1 in
    let step = c.put_next.ensures.step in
    let tried = c.put_next.ensures.tried in
    inl (refl, omega (arith, own, same, step, tried))

pub returns-in_err-find_again-clause-stands : goal.returns-in_err-find_again-clause-stands
returns-in_err-find_again-clause-stands g c = λ extra fits will.
    will_stands g.F.Flash.PAGES g.F.Flash.SLOTS g.F.Flash.SECTORS g.F.Flash.sector_start
    (g.F.Flash.state c.find_again.new.flash).words c.args.page c.find_again.new.place c.find_again.new.kept extra
    c.in_err-find_again.ensures.unready c.in_err-find_again.ensures.holds
    (c.in_err-find_again.ensures.stands extra fits will)
