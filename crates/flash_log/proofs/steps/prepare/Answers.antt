use Rattle.std.proofs.Common.{◌≡◌, ◌<◌, ◌≤◌, ◌+◌, ◌∙◌, ℕ, refl, true, sym, ap, subst, inl, inr, ⊎_elim, arith}
use Rattle.std.proofs.Common.{true≢false}
use Rattle.std.proofs.lemmas.Bool.{cases_lt}
use Rattle.flash_moves.specs.laws.Lighting.{tries_faults}
use Rattle.flash_moves.specs.declared.place.PageMap.{PageMap}
use Rattle.flash_device.specs.FlashCalls.{FlashState}
use Rattle.flash_device.specs.FlashLogs.{base_in}
use Rattle.flash_device.specs.PageTables.{AreFree}
use Rattle.flash_moves.specs.Paces.{IsBeforeMove, IsBrief, IsCaughtUp, WillKeepPace}
use Rattle.flash_moves.specs.Paces.{failed_since, free_slots, is_fresh, lost_since}
use Rattle.flash_moves.specs.laws.Pacing.{caught_more, failed_not_ok, lost_so, none_due, ready_brief, ready_caught}
use Rattle.flash_moves.specs.laws.Pacing.{ready_found, ready_in_pace, ready_moves, ready_stands, ready_stays}
use Rattle.flash_moves.specs.laws.Pacing.{ready_stepped, ready_stood, stepped_fresh, stepped_more, stepped_room}
use Rattle.flash_moves.specs.laws.Losing.{ready_lost, step_lost}
use Rattle.flash_log.specs.laws.Beginning.{begins_step}
use Rattle.flash_log.specs.laws.TakingTurns.{next_is, still_next}
use Rattle.flash_log.proofs.steps.prepare.Given.{Over}
use Rattle.flash_log.specs.SlotsInTurn.{BeginsBy, FindsNext, WillTake}
use Rattle.flash_moves.specs.Places.{log_value}
use Rattle.flash_moves.specs.Paces.{CopiesNoPageAt, HasNoStepDue, HasStepped, IsInPace, IsRoomy, StandsSo, StaysInArea}
use Rattle.flash_moves.specs.Paces.{lead_of, steps_left}
use Rattle.flash_log.proofs.steps.prepare.Goals.{After-make_room}
use Rattle.flash_log.proofs.steps.prepare.Goals as goal

pub returns-in_err-catch_up-clause-pause : goal.returns-in_err-catch_up-clause-pause
returns-in_err-catch_up-clause-pause g c = λ extra roomy.
    let no_value = failed_not_ok c.from_residual.result c.from_residual.ensures.0 in
    let work = c.catch_up.ensures.work.operations in
    let erases = c.catch_up.ensures.erases in record {
      short = λ pace. record {
        work = record { operations = omega (arith, work) };
        erases = omega (arith, erases);
      };
      stays = λ pace ok. absurd (no_value ok);
      long = λ same ok. absurd (no_value ok);
    }

pub returns-in_err-take_step-clause-pause : goal.returns-in_err-take_step-clause-pause
returns-in_err-take_step-clause-pause g c = λ extra roomy.
    let no_value = failed_not_ok c.from_residual-in_err-take_step.result c.from_residual-in_err-take_step.ensures.0 in
    record {
      short = λ pace. ready_brief (g.F.Flash.state c.args.flash.now) (g.F.Flash.state c.catch_up.new.flash)
          (g.F.Flash.state c.take_step.new.flash) c.catch_up.ensures.work c.catch_up.ensures.erases
          c.take_step.ensures.work c.take_step.ensures.erases;
      stays = λ pace ok. absurd (no_value ok);
      long = λ same ok. absurd (no_value ok);
    }

pub returns-in_err-make_room-clause-pause : goal.returns-in_err-make_room-clause-pause
returns-in_err-make_room-clause-pause g c = λ extra roomy.
    let no_value = failed_not_ok c.from_residual-in_err-make_room.result c.from_residual-in_err-make_room.ensures.0 in
    let slots = g.F.Flash.SLOTS in
    let pages = g.F.Flash.PAGES in
    let sectors = g.F.Flash.SECTORS in
    let start = g.F.Flash.sector_start in
    let old = g.F.Flash.state c.args.flash.now in
    let found = g.F.Flash.state c.catch_up.new.flash in
    let p = c.args.place.now in
    let q = c.catch_up.new.place in
    let stepped = g.F.Flash.state c.take_step.new.flash in
    let s = c.take_step.new.place in
    let ready = c.in_ok-catch_up.ensures.ready in
    let power = c.in_ok-catch_up.ensures.light.ok refl in
    let more = c.in_ok-take_step.ensures.light.ok refl in
    let rise = more.faults in
    let there = c.in_ok-take_step.ensures.ready in
    let last = g.F.Flash.state c.make_room.new.flash in
    let t = c.make_room.new.place in
    let most = tries_faults 1 stepped last c.make_room.result c.make_room.ensures.light in
    record {
      short = ready_in_pace pages slots sectors extra old found stepped p q s start
          (WillKeepPace pages slots sectors start old.words extra p)
          (c.catch_up.ensures.stands extra) ready power c.take_step.ensures.stands rise
          (omega (arith, roomy, most)) there more.due last t c.make_room.ensures.same
          c.catch_up.ensures.work c.catch_up.ensures.erases c.take_step.ensures.work c.take_step.ensures.erases;
      stays = λ pace ok. absurd (no_value ok);
      long = λ same ok. absurd (no_value ok);
    }

pub returns-clause-pause : goal.returns-clause-pause
returns-clause-pause g c = λ extra roomy.
    let slots = g.F.Flash.SLOTS in
    let pages = g.F.Flash.PAGES in
    let sectors = g.F.Flash.SECTORS in
    let start = g.F.Flash.sector_start in
    let old = g.F.Flash.state c.args.flash.now in
    let found = g.F.Flash.state c.catch_up.new.flash in
    let p = c.args.place.now in
    let q = c.catch_up.new.place in
    let stepped = g.F.Flash.state c.take_step.new.flash in
    let s = c.take_step.new.place in
    let ready = c.in_ok-catch_up.ensures.ready in
    let power = c.in_ok-catch_up.ensures.light.ok refl in
    let less = power.faults in
    let more = c.in_ok-take_step.ensures.light.ok refl in
    let rise = more.faults in
    let there = c.in_ok-take_step.ensures.ready in
    let last = g.F.Flash.state c.make_room.new.flash in
    let t = c.make_room.new.place in
    let most = tries_faults 1 stepped last c.make_room.result c.make_room.ensures.light in
    record {
      short = ready_in_pace pages slots sectors extra old found stepped p q s start
          (WillKeepPace pages slots sectors start old.words extra p)
          (c.catch_up.ensures.stands extra) ready power c.take_step.ensures.stands rise
          (omega (arith, roomy, most)) there more.due last t c.make_room.ensures.same
          c.catch_up.ensures.work c.catch_up.ensures.erases c.take_step.ensures.work c.take_step.ensures.erases;
      stays = λ pace ok. ready_stays pages slots sectors extra old found stepped p q s start
          (WillKeepPace pages slots sectors start old.words extra p)
          (c.catch_up.ensures.stands extra) ready power c.take_step.ensures.stands rise
          (omega (arith, roomy, most)) there more.due last t
          c.make_room.ensures.same pace;
      long = λ same ok. ⊎_elim
          (λ (lt : s.next < slots). inl (subst (λ (f : FlashState). IsBrief 35 2 old f)
          (sym (c.make_room.ensures.same lt).1)
          (ready_brief old found stepped c.catch_up.ensures.work c.catch_up.ensures.erases c.take_step.ensures.work
          c.take_step.ensures.erases)))
          (λ (full : slots ≤ s.next).
          let fresh = c.in_ok-make_room.ensures.fresh full (omega (arith, same, less, rise, most)) in
          let below = fresh.1 in
          inr (stepped_fresh pages slots sectors (extra + failed_since old last) t t.next roomy
          (omega (arith, below, g.met.F.Flash.pages_fit.0)) fresh.0))
          (cases_lt s.next slots);
    }

pub returns-in_err-catch_up-clause-idle : goal.returns-in_err-catch_up-clause-idle
returns-in_err-catch_up-clause-idle g c = λ ready far.
    let slots = g.F.Flash.SLOTS in
    let pages = g.F.Flash.PAGES in
    let sectors = g.F.Flash.SECTORS in
    let old = g.F.Flash.state c.args.flash.now in
    let found = g.F.Flash.state c.catch_up.new.flash in
    let p = c.args.place.now in
    let q = c.catch_up.new.place in
    none_due pages slots sectors old found found p q q (c.catch_up.ensures.next ready) c.catch_up.ensures.work
    c.catch_up.ensures.erases (c.catch_up.ensures.idle ready) refl refl

pub returns-in_err-take_step-clause-idle : goal.returns-in_err-take_step-clause-idle
returns-in_err-take_step-clause-idle g c = λ ready far.
    let slots = g.F.Flash.SLOTS in
    let pages = g.F.Flash.PAGES in
    let sectors = g.F.Flash.SECTORS in
    let old = g.F.Flash.state c.args.flash.now in
    let found = g.F.Flash.state c.catch_up.new.flash in
    let p = c.args.place.now in
    let q = c.catch_up.new.place in
    let stepped = g.F.Flash.state c.take_step.new.flash in
    let s = c.take_step.new.place in
    let next = c.catch_up.ensures.next ready in
    let still = c.take_step.ensures.idle (omega (arith, next, far)) in
    none_due pages slots sectors old found stepped p q s (c.catch_up.ensures.next ready) c.catch_up.ensures.work
    c.catch_up.ensures.erases (c.catch_up.ensures.idle ready) still.0 still.1

-- no step was due before room was made
room_idle : (g : Over) (c : After-make_room g) → c.args.place.now.ready ≡ true
    → c.args.place.now.next + lead_of g.F.Flash.PAGES g.F.Flash.SECTORS < g.F.Flash.SLOTS
    → HasNoStepDue (g.F.Flash.state c.args.flash.now) (g.F.Flash.state c.make_room.new.flash) c.args.place.now
    c.make_room.new.place
room_idle g c = λ ready far.
    let slots = g.F.Flash.SLOTS in
    let pages = g.F.Flash.PAGES in
    let sectors = g.F.Flash.SECTORS in
    let old = g.F.Flash.state c.args.flash.now in
    let found = g.F.Flash.state c.catch_up.new.flash in
    let p = c.args.place.now in
    let q = c.catch_up.new.place in
    let s = c.take_step.new.place in
    let last = g.F.Flash.state c.make_room.new.flash in
    let t = c.make_room.new.place in
    let next = c.catch_up.ensures.next ready in
    let still = c.take_step.ensures.idle (omega (arith, next, far)) in
    let here : s.next < slots =
    let as_found = ap (λ (z : PageMap _). z.next) still.0 in omega (arith, as_found, next, far) in
    let room = c.make_room.ensures.same here in
    none_due pages slots sectors old found last p q t (c.catch_up.ensures.next ready) c.catch_up.ensures.work
    c.catch_up.ensures.erases (c.catch_up.ensures.idle ready) (room.0 ∙ still.0) (room.1 ∙ still.1)

pub returns-in_err-make_room-clause-idle : goal.returns-in_err-make_room-clause-idle
returns-in_err-make_room-clause-idle g c =
    room_idle g (goal.at.returns-in_err-make_room-clause-idle g c).After-make_room

pub returns-clause-idle : goal.returns-clause-idle
returns-clause-idle g c = room_idle g (goal.at.returns-clause-idle g c).After-make_room

pub returns-clause-moves_well : goal.returns-clause-moves_well
returns-clause-moves_well g c = λ extra roomy same pace.
    let slots = g.F.Flash.SLOTS in
    let pages = g.F.Flash.PAGES in
    let sectors = g.F.Flash.SECTORS in
    let start = g.F.Flash.sector_start in
    let old = g.F.Flash.state c.args.flash.now in
    let found = g.F.Flash.state c.catch_up.new.flash in
    let p = c.args.place.now in
    let q = c.catch_up.new.place in
    let stepped = g.F.Flash.state c.take_step.new.flash in
    let s = c.take_step.new.place in
    let ready = c.in_ok-catch_up.ensures.ready in
    let power = c.in_ok-catch_up.ensures.light.ok refl in
    let less = power.faults in
    let more = c.in_ok-take_step.ensures.light.ok refl in
    let rise = more.faults in
    let there = c.in_ok-take_step.ensures.ready in
    let last = g.F.Flash.state c.make_room.new.flash in
    let t = c.make_room.new.place in
    let most = tries_faults 1 stepped last c.make_room.result c.make_room.ensures.light in
    let well = c.in_ok-take_step.ensures.moves_well extra roomy in
    ready_moves pages slots sectors extra old found stepped p q s start
    (WillKeepPace pages slots sectors start old.words extra p)
    (c.catch_up.ensures.stands extra) ready power c.take_step.ensures.stands rise
    (omega (arith, roomy, same, less, rise, most)) there more.due last t c.make_room.ensures.same
    extra c.catch_up.ensures.next pace.ready (inl pace)
    (λ (caught : IsCaughtUp pages slots sectors (extra + failed_since old found) q).
    well (caught_more pages slots sectors (extra + failed_since old found) extra q
    (omega (arith, same, less, rise, most)) caught) (omega (arith, same, less, rise, most)))

pub returns-clause-moves_found : goal.returns-clause-moves_found
returns-clause-moves_found g c = λ extra roomy same stands n finds.
    let slots = g.F.Flash.SLOTS in
    let pages = g.F.Flash.PAGES in
    let sectors = g.F.Flash.SECTORS in
    let start = g.F.Flash.sector_start in
    let old = g.F.Flash.state c.args.flash.now in
    let found = g.F.Flash.state c.catch_up.new.flash in
    let p = c.args.place.now in
    let q = c.catch_up.new.place in
    let stepped = g.F.Flash.state c.take_step.new.flash in
    let s = c.take_step.new.place in
    let ready = c.in_ok-catch_up.ensures.ready in
    let power = c.in_ok-catch_up.ensures.light.ok refl in
    let less = power.faults in
    let more = c.in_ok-take_step.ensures.light.ok refl in
    let rise = more.faults in
    let there = c.in_ok-take_step.ensures.ready in
    let last = g.F.Flash.state c.make_room.new.flash in
    let t = c.make_room.new.place in
    let most = tries_faults 1 stepped last c.make_room.result c.make_room.ensures.light in
    let well = c.in_ok-take_step.ensures.moves_well extra roomy in
    ready_found pages slots sectors extra old found stepped p q s start
    (WillKeepPace pages slots sectors start old.words extra p)
    (c.catch_up.ensures.stands extra) ready power c.take_step.ensures.stands rise
    (omega (arith, roomy, same, less, rise, most)) there more.due last t c.make_room.ensures.same
    extra stands n (finds.all q.next c.in_ok-catch_up.ensures.free)
    (λ (caught : IsCaughtUp pages slots sectors (extra + failed_since old found) q).
    well (caught_more pages slots sectors (extra + failed_since old found) extra q
    (omega (arith, same, less, rise, most)) caught) (omega (arith, same, less, rise, most)))

pub returns-in_err-catch_up-clause-lost : goal.returns-in_err-catch_up-clause-lost
returns-in_err-catch_up-clause-lost g c = λ extra roomy same stands. ⊎_elim
    (λ (more : (g.F.Flash.state c.args.flash.now).erases < (g.F.Flash.state c.catch_up.new.flash).erases).
    let none = c.catch_up.ensures.erases in absurd (omega (arith, more, none)))
    (λ (before : IsBeforeMove g.F.Flash.PAGES g.F.Flash.SLOTS g.F.Flash.SECTORS
    (free_slots g.F.Flash.SLOTS c.args.place.now) (is_fresh c.args.place.now)
    (g.F.Flash.state c.args.flash.now).words). c.catch_up.ensures.lost extra roomy stands before)

pub returns-in_err-take_step-clause-lost : goal.returns-in_err-take_step-clause-lost
returns-in_err-take_step-clause-lost g c = λ extra roomy same stands none.
    let slots = g.F.Flash.SLOTS in
    let pages = g.F.Flash.PAGES in
    let sectors = g.F.Flash.SECTORS in
    let start = g.F.Flash.sector_start in
    let old = g.F.Flash.state c.args.flash.now in
    let found = g.F.Flash.state c.catch_up.new.flash in
    let p = c.args.place.now in
    let q = c.catch_up.new.place in
    let stepped = g.F.Flash.state c.take_step.new.flash in
    let s = c.take_step.new.place in
    let ready = c.in_ok-catch_up.ensures.ready in
    let power = c.in_ok-catch_up.ensures.light.ok refl in
    let less = power.faults in
    let rise = tries_faults 1 found stepped c.take_step.result c.take_step.ensures.light in
    let here = caught_more pages slots sectors (extra + failed_since old found) extra q
    (omega (arith, same, less, rise))
    (ready_caught pages slots sectors extra old found stepped p q s start
    (WillKeepPace pages slots sectors start old.words extra p)
    (c.catch_up.ensures.stands extra) ready power c.take_step.ensures.stands rise
    (omega (arith, roomy, same, less, rise)) stands) in
    step_lost pages slots sectors extra old found stepped p q s c.catch_up.ensures.next ready
    (c.catch_up.ensures.log.known ready).free.within c.in_ok-catch_up.ensures.found c.catch_up.ensures.erases
    c.take_step.ensures.idle here start (c.catch_up.ensures.lost extra roomy stands)
    (c.take_step.ensures.lost extra) none

-- without a Fault the flash is in pace behind the room that was made
room_lost : (g : Over) (c : After-make_room g) → (extra : ℕ)
    → IsRoomy g.F.Flash.PAGES g.F.Flash.SLOTS g.F.Flash.SECTORS extra
    → (g.F.Flash.state c.make_room.new.flash).faults ≡ (g.F.Flash.state c.args.flash.now).faults
    → WillKeepPace g.F.Flash.PAGES g.F.Flash.SLOTS g.F.Flash.SECTORS g.F.Flash.sector_start
    (g.F.Flash.state c.args.flash.now).words extra c.args.place.now
    → CopiesNoPageAt g.F.Flash.PAGES g.F.Flash.SLOTS g.F.Flash.SECTORS (g.F.Flash.state c.args.flash.now)
    c.args.place.now (g.F.Flash.state c.make_room.new.flash)
    → IsInPace g.F.Flash.PAGES g.F.Flash.SLOTS g.F.Flash.SECTORS g.F.Flash.sector_start
    (g.F.Flash.state c.make_room.new.flash).words extra
room_lost g c = λ extra roomy same stands none.
    let slots = g.F.Flash.SLOTS in
    let pages = g.F.Flash.PAGES in
    let sectors = g.F.Flash.SECTORS in
    let start = g.F.Flash.sector_start in
    let old = g.F.Flash.state c.args.flash.now in
    let found = g.F.Flash.state c.catch_up.new.flash in
    let p = c.args.place.now in
    let q = c.catch_up.new.place in
    let stepped = g.F.Flash.state c.take_step.new.flash in
    let s = c.take_step.new.place in
    let ready = c.in_ok-catch_up.ensures.ready in
    let power = c.in_ok-catch_up.ensures.light.ok refl in
    let less = power.faults in
    let more = c.in_ok-take_step.ensures.light.ok refl in
    let rise = more.faults in
    let there = c.in_ok-take_step.ensures.ready in
    let last = g.F.Flash.state c.make_room.new.flash in
    let t = c.make_room.new.place in
    let most = tries_faults 1 stepped last c.make_room.result c.make_room.ensures.light in
    let here = caught_more pages slots sectors (extra + failed_since old found) extra q
    (omega (arith, same, less, rise, most))
    (ready_caught pages slots sectors extra old found stepped p q s start
    (WillKeepPace pages slots sectors start old.words extra p)
    (c.catch_up.ensures.stands extra) ready power c.take_step.ensures.stands rise
    (omega (arith, roomy, same, less, rise, most)) stands) in
    let stays = stepped_more pages slots sectors (extra + failed_since old stepped) extra s
    (omega (arith, same, less, rise, most))
    (ready_stepped pages slots sectors extra old found stepped p q s start
    (WillKeepPace pages slots sectors start old.words extra p)
    (c.catch_up.ensures.stands extra) ready power c.take_step.ensures.stands rise
    (omega (arith, roomy, same, less, rise, most)) there more.due stands) in
    ready_lost pages slots sectors extra old found stepped p q s c.catch_up.ensures.next ready
    (c.catch_up.ensures.log.known ready).free.within c.in_ok-catch_up.ensures.found c.catch_up.ensures.erases
    c.take_step.ensures.idle here last t c.make_room.ensures.same stays start
    (c.catch_up.ensures.lost extra roomy stands) (c.take_step.ensures.lost extra) none

pub returns-in_err-make_room-clause-lost : goal.returns-in_err-make_room-clause-lost
returns-in_err-make_room-clause-lost g c =
    room_lost g (goal.at.returns-in_err-make_room-clause-lost g c).After-make_room

pub returns-clause-lost : goal.returns-clause-lost
returns-clause-lost g c = room_lost g (goal.at.returns-clause-lost g c).After-make_room

pub returns-in_err-catch_up-clause-stands : goal.returns-in_err-catch_up-clause-stands
returns-in_err-catch_up-clause-stands g c = λ extra roomy stands.
    let slots = g.F.Flash.SLOTS in
    let pages = g.F.Flash.PAGES in
    let sectors = g.F.Flash.SECTORS in
    let start = g.F.Flash.sector_start in
    let old = g.F.Flash.state c.args.flash.now in
    let found = g.F.Flash.state c.catch_up.new.flash in
    let q = c.catch_up.new.place in
    let unready = c.in_err-catch_up.ensures.unready in
    inr (
      unready,
      lost_so pages slots sectors start found.words (extra + lost_since old found) q
          (IsCaughtUp pages slots sectors (extra + lost_since old found) q) unready
          (λ (z : IsCaughtUp pages slots sectors (extra + lost_since old found) q). z.ready)
          (c.catch_up.ensures.stands extra roomy stands),
    )

pub returns-in_err-take_step-clause-stands : goal.returns-in_err-take_step-clause-stands
returns-in_err-take_step-clause-stands g c = λ extra roomy stands.
    let slots = g.F.Flash.SLOTS in
    let pages = g.F.Flash.PAGES in
    let sectors = g.F.Flash.SECTORS in
    let start = g.F.Flash.sector_start in
    let old = g.F.Flash.state c.args.flash.now in
    let found = g.F.Flash.state c.catch_up.new.flash in
    let p = c.args.place.now in
    let q = c.catch_up.new.place in
    let stepped = g.F.Flash.state c.take_step.new.flash in
    let s = c.take_step.new.place in
    let ready = c.in_ok-catch_up.ensures.ready in
    let power = c.in_ok-catch_up.ensures.light.ok refl in
    let rise = tries_faults 1 found stepped c.take_step.result c.take_step.ensures.light in
    ready_stands pages slots sectors extra old found stepped p q s start
    (WillKeepPace pages slots sectors start old.words extra p)
    (c.catch_up.ensures.stands extra) ready power c.take_step.ensures.stands rise
    roomy stands

-- the log is in pace behind the room that was made, or will be
room_stands : (g : Over) (c : After-make_room g) → (extra : ℕ)
    → IsRoomy g.F.Flash.PAGES g.F.Flash.SLOTS g.F.Flash.SECTORS (extra + failed_since (g.F.Flash.state c.args.flash.now)
    (g.F.Flash.state c.make_room.new.flash))
    → WillKeepPace g.F.Flash.PAGES g.F.Flash.SLOTS g.F.Flash.SECTORS g.F.Flash.sector_start
    (g.F.Flash.state c.args.flash.now).words extra c.args.place.now
    → StandsSo g.F.Flash.PAGES g.F.Flash.SLOTS g.F.Flash.SECTORS g.F.Flash.sector_start
    (g.F.Flash.state c.make_room.new.flash).words (extra + lost_since (g.F.Flash.state c.args.flash.now)
    (g.F.Flash.state c.make_room.new.flash)) c.make_room.new.place (HasStepped g.F.Flash.PAGES g.F.Flash.SLOTS
    g.F.Flash.SECTORS (extra + lost_since (g.F.Flash.state c.args.flash.now) (g.F.Flash.state c.make_room.new.flash))
    c.make_room.new.place)
room_stands g c = λ extra roomy stands.
    let slots = g.F.Flash.SLOTS in
    let pages = g.F.Flash.PAGES in
    let sectors = g.F.Flash.SECTORS in
    let start = g.F.Flash.sector_start in
    let old = g.F.Flash.state c.args.flash.now in
    let found = g.F.Flash.state c.catch_up.new.flash in
    let p = c.args.place.now in
    let q = c.catch_up.new.place in
    let stepped = g.F.Flash.state c.take_step.new.flash in
    let s = c.take_step.new.place in
    let ready = c.in_ok-catch_up.ensures.ready in
    let power = c.in_ok-catch_up.ensures.light.ok refl in
    let more = c.in_ok-take_step.ensures.light.ok refl in
    let rise = more.faults in
    let there = c.in_ok-take_step.ensures.ready in
    let last = g.F.Flash.state c.make_room.new.flash in
    let t = c.make_room.new.place in
    let most = tries_faults 1 stepped last c.make_room.result c.make_room.ensures.light in
    ready_stood pages slots sectors extra old found stepped p q s start
    (WillKeepPace pages slots sectors start old.words extra p)
    (c.catch_up.ensures.stands extra) ready power c.take_step.ensures.stands rise
    (omega (arith, roomy, most)) there more.due last t
    c.make_room.ensures.same stands

pub returns-in_err-make_room-clause-stands : goal.returns-in_err-make_room-clause-stands
returns-in_err-make_room-clause-stands g c =
    room_stands g (goal.at.returns-in_err-make_room-clause-stands g c).After-make_room

pub returns-clause-stands : goal.returns-clause-stands
returns-clause-stands g c = room_stands g (goal.at.returns-clause-stands g c).After-make_room

pub returns-in_err-catch_up-clause-turns : goal.returns-in_err-catch_up-clause-turns
returns-in_err-catch_up-clause-turns g c = λ n far takes. c.catch_up.ensures.turns n far takes

pub returns-in_err-take_step-clause-turns : goal.returns-in_err-take_step-clause-turns
returns-in_err-take_step-clause-turns g c = λ n far takes.
    let slots = g.F.Flash.SLOTS in
    let pages = g.F.Flash.PAGES in
    let sectors = g.F.Flash.SECTORS in
    let old = g.F.Flash.state c.args.flash.now in
    let found = g.F.Flash.state c.catch_up.new.flash in
    let p = c.args.place.now in
    let q = c.catch_up.new.place in
    let stepped = g.F.Flash.state c.take_step.new.flash in
    let s = c.take_step.new.place in
    let ready = c.in_ok-catch_up.ensures.ready in
    let known = c.catch_up.ensures.log.known ready in
    let first = c.catch_up.ensures.turns n far takes in
    let next = next_is pages slots sectors found q n ready
    (subst (λ (t : ℕ). AreFree found.words (base_in slots t) q.next slots) known.turn known.free) first.takes in
    let still = c.take_step.ensures.idle (omega (arith, next, far)) in
    still_next pages slots sectors old found stepped p q s n still.0 still.1 first

-- the next slot is found before room is made
room_turns : (g : Over) (c : After-make_room g) → (n : ℕ)
    → n + lead_of g.F.Flash.PAGES g.F.Flash.SECTORS < g.F.Flash.SLOTS
    → WillTake g.F.Flash.SLOTS (log_value g.F.Flash.PAGES g.F.Flash.SLOTS g.F.Flash.SECTORS
    (g.F.Flash.state c.args.flash.now) c.args.place.now) n
    → FindsNext g.F.Flash.SLOTS n (log_value g.F.Flash.PAGES g.F.Flash.SLOTS g.F.Flash.SECTORS
    (g.F.Flash.state c.args.flash.now) c.args.place.now) (log_value g.F.Flash.PAGES g.F.Flash.SLOTS g.F.Flash.SECTORS
    (g.F.Flash.state c.make_room.new.flash) c.make_room.new.place)
room_turns g c = λ n far takes.
    let slots = g.F.Flash.SLOTS in
    let pages = g.F.Flash.PAGES in
    let sectors = g.F.Flash.SECTORS in
    let old = g.F.Flash.state c.args.flash.now in
    let found = g.F.Flash.state c.catch_up.new.flash in
    let p = c.args.place.now in
    let q = c.catch_up.new.place in
    let s = c.take_step.new.place in
    let ready = c.in_ok-catch_up.ensures.ready in
    let known = c.catch_up.ensures.log.known ready in
    let first = c.catch_up.ensures.turns n far takes in
    let next = next_is pages slots sectors found q n ready
    (subst (λ (t : ℕ). AreFree found.words (base_in slots t) q.next slots) known.turn known.free) first.takes in
    let still = c.take_step.ensures.idle (omega (arith, next, far)) in
    let last = g.F.Flash.state c.make_room.new.flash in
    let t = c.make_room.new.place in
    let here : s.next < slots =
    let as_found = ap (λ (z : PageMap _). z.next) still.0 in omega (arith, as_found, next, far) in
    let room = c.make_room.ensures.same here in
    still_next pages slots sectors old found last p q t n (room.0 ∙ still.0) (room.1 ∙ still.1) first

pub returns-in_err-make_room-clause-turns : goal.returns-in_err-make_room-clause-turns
returns-in_err-make_room-clause-turns g c =
    room_turns g (goal.at.returns-in_err-make_room-clause-turns g c).After-make_room

pub returns-clause-turns : goal.returns-clause-turns
returns-clause-turns g c = room_turns g (goal.at.returns-clause-turns g c).After-make_room

pub returns-in_err-catch_up-clause-begins : goal.returns-in_err-catch_up-clause-begins
returns-in_err-catch_up-clause-begins g c = λ extra n roomy stands stays begins.
    c.catch_up.ensures.begins extra n roomy stands begins

pub returns-in_err-take_step-clause-begins : goal.returns-in_err-take_step-clause-begins
returns-in_err-take_step-clause-begins g c = λ extra n roomy stands stays begins.
    let slots = g.F.Flash.SLOTS in
    let pages = g.F.Flash.PAGES in
    let sectors = g.F.Flash.SECTORS in
    let start = g.F.Flash.sector_start in
    let old = g.F.Flash.state c.args.flash.now in
    let found = g.F.Flash.state c.catch_up.new.flash in
    let p = c.args.place.now in
    let q = c.catch_up.new.place in
    let stepped = g.F.Flash.state c.take_step.new.flash in
    let s = c.take_step.new.place in
    let ready = c.in_ok-catch_up.ensures.ready in
    let power = c.in_ok-catch_up.ensures.light.ok refl in
    let rise = tries_faults 1 found stepped c.take_step.result c.take_step.ensures.light in
    let here = ready_caught pages slots sectors extra old found stepped p q s start
    (WillKeepPace pages slots sectors start old.words extra p)
    (c.catch_up.ensures.stands extra) ready power c.take_step.ensures.stands rise roomy stands in
    let known = c.catch_up.ensures.log.known ready in
    begins_step pages slots sectors old found stepped q s n ready
    (subst (λ (t : ℕ). AreFree found.words (base_in slots t) q.next slots) known.turn known.free) here.passed
    c.catch_up.ensures.turn c.take_step.ensures.home stays c.take_step.ensures.tried
    (λ there. absurd (true≢false (sym there ∙ c.in_err-take_step.ensures.unready)))
    (c.catch_up.ensures.begins extra n (omega (arith, roomy, rise)) stands begins)

-- A step passes no slot, unless the pages move. In pace there is room behind it.
room_begins : (g : Over) (c : After-make_room g) → (extra n : ℕ)
    → IsRoomy g.F.Flash.PAGES g.F.Flash.SLOTS g.F.Flash.SECTORS
    (extra + failed_since (g.F.Flash.state c.args.flash.now) (g.F.Flash.state c.make_room.new.flash))
    → WillKeepPace g.F.Flash.PAGES g.F.Flash.SLOTS g.F.Flash.SECTORS g.F.Flash.sector_start
    (g.F.Flash.state c.args.flash.now).words extra c.args.place.now
    → StaysInArea g.F.Flash.SLOTS (g.F.Flash.state c.args.flash.now).words
    (g.F.Flash.state c.make_room.new.flash).words
    → BeginsBy g.F.Flash.SLOTS (log_value g.F.Flash.PAGES g.F.Flash.SLOTS g.F.Flash.SECTORS
    (g.F.Flash.state c.args.flash.now) c.args.place.now) n
    → BeginsBy g.F.Flash.SLOTS (log_value g.F.Flash.PAGES g.F.Flash.SLOTS g.F.Flash.SECTORS
    (g.F.Flash.state c.make_room.new.flash) c.make_room.new.place) n
room_begins g c = λ extra n roomy stands stays begins.
    let slots = g.F.Flash.SLOTS in
    let pages = g.F.Flash.PAGES in
    let sectors = g.F.Flash.SECTORS in
    let start = g.F.Flash.sector_start in
    let old = g.F.Flash.state c.args.flash.now in
    let found = g.F.Flash.state c.catch_up.new.flash in
    let p = c.args.place.now in
    let q = c.catch_up.new.place in
    let stepped = g.F.Flash.state c.take_step.new.flash in
    let s = c.take_step.new.place in
    let ready = c.in_ok-catch_up.ensures.ready in
    let power = c.in_ok-catch_up.ensures.light.ok refl in
    let more = c.in_ok-take_step.ensures.light.ok refl in
    let rise = more.faults in
    let there = c.in_ok-take_step.ensures.ready in
    let last = g.F.Flash.state c.make_room.new.flash in
    let t = c.make_room.new.place in
    let most = tries_faults 1 stepped last c.make_room.result c.make_room.ensures.light in
    let here = ready_caught pages slots sectors extra old found stepped p q s start
    (WillKeepPace pages slots sectors start old.words extra p)
    (c.catch_up.ensures.stands extra) ready power c.take_step.ensures.stands rise
    (omega (arith, roomy, most)) stands in
    let room = stepped_room pages slots sectors (extra + failed_since old stepped) s
    (ready_stepped pages slots sectors extra old found stepped p q s start
    (WillKeepPace pages slots sectors start old.words extra p)
    (c.catch_up.ensures.stands extra) ready power c.take_step.ensures.stands rise
    (omega (arith, roomy, most)) there more.due stands) in
    let still = c.make_room.ensures.same room in
    let known = c.catch_up.ensures.log.known ready in
    let stepped_begins = begins_step pages slots sectors old found stepped q s n ready
    (subst (λ (k : ℕ). AreFree found.words (base_in slots k) q.next slots) known.turn known.free) here.passed
    c.catch_up.ensures.turn c.take_step.ensures.home
    (subst (λ (f : FlashState). StaysInArea slots old.words f.words) still.1 stays) c.take_step.ensures.tried
    (λ is. c.in_ok-take_step.ensures.next)
    (c.catch_up.ensures.begins extra n (omega (arith, roomy, rise, most)) stands begins) in
    subst (λ (z : PageMap _). BeginsBy slots (log_value pages slots sectors last z) n) (sym still.0)
    (subst (λ (f : FlashState). BeginsBy slots (log_value pages slots sectors f s) n) (sym still.1) stepped_begins)

pub returns-in_err-make_room-clause-begins : goal.returns-in_err-make_room-clause-begins
returns-in_err-make_room-clause-begins g c =
    room_begins g (goal.at.returns-in_err-make_room-clause-begins g c).After-make_room

pub returns-clause-begins : goal.returns-clause-begins
returns-clause-begins g c = room_begins g (goal.at.returns-clause-begins g c).After-make_room

pub returns-clause-steps : goal.returns-clause-steps
returns-clause-steps g c = λ extra roomy same pace due stays.
    let slots = g.F.Flash.SLOTS in
    let pages = g.F.Flash.PAGES in
    let sectors = g.F.Flash.SECTORS in
    let start = g.F.Flash.sector_start in
    let old = g.F.Flash.state c.args.flash.now in
    let found = g.F.Flash.state c.catch_up.new.flash in
    let p = c.args.place.now in
    let q = c.catch_up.new.place in
    let stepped = g.F.Flash.state c.take_step.new.flash in
    let s = c.take_step.new.place in
    let ready = c.in_ok-catch_up.ensures.ready in
    let power = c.in_ok-catch_up.ensures.light.ok refl in
    let less = power.faults in
    let more = c.in_ok-take_step.ensures.light.ok refl in
    let rise = more.faults in
    let there = c.in_ok-take_step.ensures.ready in
    let last = g.F.Flash.state c.make_room.new.flash in
    let t = c.make_room.new.place in
    let most = tries_faults 1 stepped last c.make_room.result c.make_room.ensures.light in
    let here = ready_caught pages slots sectors extra old found stepped p q s start
    (WillKeepPace pages slots sectors start old.words extra p)
    (c.catch_up.ensures.stands extra) ready power c.take_step.ensures.stands rise
    (omega (arith, roomy, same, less, rise, most)) (inl pace) in
    let room = stepped_room pages slots sectors (extra + failed_since old stepped) s
    (ready_stepped pages slots sectors extra old found stepped p q s start
    (WillKeepPace pages slots sectors start old.words extra p)
    (c.catch_up.ensures.stands extra) ready power c.take_step.ensures.stands rise
    (omega (arith, roomy, same, less, rise, most)) there more.due (inl pace)) in
    let still = c.make_room.ensures.same room in
    let next = c.catch_up.ensures.next pace.ready in
    let steps = c.in_ok-catch_up.ensures.steps extra roomy pace in
    let ends = c.in_ok-take_step.ensures.steps (extra + failed_since old found)
    (omega (arith, roomy, same, less, rise, most)) here (omega (arith, next, due)) in
    let area : StaysInArea slots found.words stepped.words =
    subst (λ (f : FlashState). StaysInArea slots old.words f.words) still.1 stays
    ∙ sym (ap (base_in slots) c.catch_up.ensures.turn) in
    let stepped_next = c.in_ok-take_step.ensures.next area in
    let last_steps = ap (λ (z : PageMap _). steps_left pages sectors z) still.0 in
    ⊎_elim
    (λ (one : (steps_left pages sectors s + 1 ≡ steps_left pages sectors q) × (s.next ≡ q.next)).
    let fewer = one.0 in omega (arith, fewer, steps, last_steps))
    (λ (far : s.next + lead_of pages sectors < slots). absurd (omega (arith, far, stepped_next, next, due)))
    ends.fewer

pub returns-clause-ends : goal.returns-clause-ends
returns-clause-ends g c = λ extra roomy pace.
    let slots = g.F.Flash.SLOTS in
    let pages = g.F.Flash.PAGES in
    let sectors = g.F.Flash.SECTORS in
    let start = g.F.Flash.sector_start in
    let old = g.F.Flash.state c.args.flash.now in
    let found = g.F.Flash.state c.catch_up.new.flash in
    let p = c.args.place.now in
    let q = c.catch_up.new.place in
    let stepped = g.F.Flash.state c.take_step.new.flash in
    let s = c.take_step.new.place in
    let ready = c.in_ok-catch_up.ensures.ready in
    let power = c.in_ok-catch_up.ensures.light.ok refl in
    let less = power.faults in
    let more = c.in_ok-take_step.ensures.light.ok refl in
    let rise = more.faults in
    let there = c.in_ok-take_step.ensures.ready in
    let last = g.F.Flash.state c.make_room.new.flash in
    let most = tries_faults 1 stepped last c.make_room.result c.make_room.ensures.light in
    let here = ready_caught pages slots sectors extra old found stepped p q s start
    (WillKeepPace pages slots sectors start old.words extra p)
    (c.catch_up.ensures.stands extra) ready power c.take_step.ensures.stands rise
    (omega (arith, roomy, less, rise, most)) (inl pace) in
    let room = stepped_room pages slots sectors (extra + failed_since old stepped) s
    (ready_stepped pages slots sectors extra old found stepped p q s start
    (WillKeepPace pages slots sectors start old.words extra p)
    (c.catch_up.ensures.stands extra) ready power c.take_step.ensures.stands rise
    (omega (arith, roomy, less, rise, most)) there more.due (inl pace)) in
    let still = c.make_room.ensures.same room in
    let next = c.catch_up.ensures.next pace.ready in
    let steps = c.in_ok-catch_up.ensures.steps extra (omega (arith, roomy, less, rise, most)) pace in
    let last_next = ap (λ (z : PageMap _). z.next) still.0 in
    let last_steps = ap (λ (z : PageMap _). steps_left pages sectors z) still.0 in
    ⊎_elim
    (λ (far : p.next + lead_of pages sectors < slots).
    let idle = c.take_step.ensures.idle (omega (arith, next, far)) in
    let same = ap (λ (z : PageMap _). z.next) idle.0 in
    record { fewer = inr (omega (arith, far, next, same, last_next)) })
    (λ (due : slots ≤ p.next + lead_of pages sectors).
    let ends = c.in_ok-take_step.ensures.steps (extra + failed_since old found)
    (omega (arith, roomy, less, rise, most)) here (omega (arith, next, due)) in
    ⊎_elim
    (λ (one : (steps_left pages sectors s + 1 ≡ steps_left pages sectors q) × (s.next ≡ q.next)).
    let fewer = one.0 in
    let stays = one.1 in
    record { fewer = inl (omega (arith, fewer, steps, last_steps), omega (arith, stays, next, last_next)) })
    (λ (far : s.next + lead_of pages sectors < slots). record { fewer = inr (omega (arith, far, last_next)) })
    ends.fewer)
    (cases_lt (p.next + lead_of pages sectors) slots)
