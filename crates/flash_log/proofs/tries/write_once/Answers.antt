use Rattle.std.proofs.Common.{◌≡◌, ◌⊎◌, ◌<◌, ◌≤◌, ◌+◌, ◌-◌, ◌*◌, ℕ, Bool, false, true, List}
use Rattle.std.proofs.Common.{refl, ap, sym, subst, inl, inr}
use Rattle.std.proofs.Common.{⊎_elim, ◌∙◌, arith, if◌then◌else◌, true≢false}
use Rattle.std.proofs.lemmas.Bool.{cases_Bool}
use Rattle.std.proofs.lemmas.Result.{on_ok_weaker}
use Rattle.nvm_board.specs.History.{written}
use Rattle.flash_device.specs.FlashBlocks.{steps_of}
use Rattle.flash_device.specs.FlashLogs.{base_in, words_of}
use Rattle.flash_device.specs.PageTables.{AreFree}
use Rattle.flash_area.specs.Spares.{copies_most}
use Rattle.flash_moves.specs.Places.{log_value}
use Rattle.flash_log.specs.SlotsInTurn.{TakesInTurn}
use Rattle.flash_moves.specs.Paces.{HasStepped, IsBrief, WillKeepPace, extra_slots}
use Rattle.flash_moves.specs.Paces.{failed_since, free_slots, lead_of, lost_since, steps_left}
use Rattle.flash_moves.specs.laws.Lighting.{lights_faults, lights_once}
use Rattle.flash_moves.specs.laws.Pacing.{failed_not_ok, found_so, free_known, free_of, short_then, stands_more}
use Rattle.flash_moves.specs.laws.Pacing.{stepped_more, stepped_paced, steps_most}
use Rattle.flash_log.specs.laws.Retrying.{err_holds, holds_ok, lights_tries, ok_holds, tries_behind}
use Rattle.flash_log.specs.laws.Beginning.{begins_behind, begins_later, begins_next}
use Rattle.flash_log.specs.laws.TakingTurns.{far_stepped, finds_takes, finds_then, next_is, put_once, takes_pace}
use Rattle.flash_log.proofs.tries.write_once.Given.{Over}
use Rattle.flash_log.proofs.tries.write_once.Goals.{After-put_next}
use Rattle.flash_log.proofs.tries.write_once.Goals as goal

pub returns-clause-whole : goal.returns-clause-whole
returns-clause-whole g c =
    let slots = g.F.Flash.SLOTS in
    let pages = g.F.Flash.PAGES in
    let after = (g.F.Flash.state c.put_next.new.flash).words in
    let at = 16 * c.args.page + c.args.first in
    subst (λ (l : List ℕ). (words_of pages slots after ≡ l) ⊎ (words_of pages slots after
    ≡ written l at c.args.words.now)) c.prepare.ensures.words c.put_next.ensures.whole

pub returns-clause-done : goal.returns-clause-done
returns-clause-done g c =
    let slots = g.F.Flash.SLOTS in
    let pages = g.F.Flash.PAGES in
    let mid = words_of pages slots (g.F.Flash.state c.prepare.new.flash).words in
    let after = words_of pages slots (g.F.Flash.state c.put_next.new.flash).words in
    let at = 16 * c.args.page + c.args.first in
    on_ok_weaker c.put_next.result
    (λ (done : after ≡ written mid at c.args.words.now).
    done ∙ ap (λ (l : List ℕ). written l at c.args.words.now) c.prepare.ensures.words)
    c.put_next.ensures.done

pub returns-clause-light : goal.returns-clause-light
returns-clause-light g c =
    let mid = g.F.Flash.state c.prepare.new.flash in
    let new = g.F.Flash.state c.put_next.new.flash in
    let kept = c.in_ok-prepare.ensures.light.ok refl in
    tries_behind 0 1 1 (g.F.Flash.state c.args.flash.now) mid new c.put_next.result kept
    (let less = kept.faults in omega (arith, less)) (omega arith)
    (lights_tries mid new c.put_next.result c.put_next.ensures.light)

pub returns-clause-work : goal.returns-clause-work
returns-clause-work g c = record {
  operations =
      let first = c.prepare.ensures.work.operations in
      let last = c.put_next.ensures.work in
      let more = lights_faults (g.F.Flash.state c.prepare.new.flash) (g.F.Flash.state c.put_next.new.flash)
      c.put_next.result c.put_next.ensures.light in
      omega (arith, first, last, more);
}

pub returns-clause-again : goal.returns-clause-again
returns-clause-again g c = λ failed. record {
  operations =
      let first = c.prepare.ensures.work.operations in
      let last = c.put_next.ensures.work in
      let more = (c.put_next.ensures.light.fault failed).faults in
      omega (arith, first, last, more);
}

pub returns-in_err-prepare-clause-brief : goal.returns-in_err-prepare-clause-brief
returns-in_err-prepare-clause-brief g c = λ failed extra roomy pace. (c.prepare.ensures.pause extra roomy).short pace

pub returns-clause-brief : goal.returns-clause-brief
returns-clause-brief g c = λ failed extra roomy pace.
    let more = (c.put_next.ensures.light.fault failed).faults in
    let short = (c.in_ok-prepare.ensures.pause extra (omega (arith, roomy, more))).short pace in
    let first = short.work.operations in
    let last = c.put_next.ensures.work in
    let erased = short.erases in
    let erases = c.put_next.ensures.erases in
    record {
      work = record { operations = omega (arith, first, last, more) };
      erases = omega (arith, erased, erases);
    }

pub returns-in_err-prepare-clause-pause : goal.returns-in_err-prepare-clause-pause
returns-in_err-prepare-clause-pause g c = λ extra roomy.
    let no_value = failed_not_ok c.from_residual.result c.from_residual.ensures.0 in
    let pause = c.prepare.ensures.pause extra roomy in
    record {
      short = λ pace. let short = pause.short pace in let work = short.work.operations in record {
        work = record { operations = omega (arith, work) };
        erases = short.erases;
      };
      stays = λ pace ok. absurd (no_value ok);
      long = λ same ok. absurd (no_value ok);
    }

-- behind the record the log is in pace
put_pace : (g : Over) (c : After-put_next g) (extra given : ℕ)
    → HasStepped g.F.Flash.PAGES g.F.Flash.SLOTS g.F.Flash.SECTORS extra c.prepare.new.place → extra ≤ given
    → WillKeepPace g.F.Flash.PAGES g.F.Flash.SLOTS g.F.Flash.SECTORS g.F.Flash.sector_start
    (g.F.Flash.state c.put_next.new.flash).words given c.put_next.new.place
put_pace g c = λ extra given stepped fits. c.put_next.ensures.stands given
    (stepped_more g.F.Flash.PAGES g.F.Flash.SLOTS g.F.Flash.SECTORS extra given c.prepare.new.place fits stepped)

pub returns-clause-pause : goal.returns-clause-pause
returns-clause-pause g c = λ extra roomy.
    let slots = g.F.Flash.SLOTS in
    let pages = g.F.Flash.PAGES in
    let sectors = g.F.Flash.SECTORS in
    let start = g.F.Flash.sector_start in
    let place = c.prepare.new.place in
    let last = c.put_next.new.place in
    let old = g.F.Flash.state c.args.flash.now in
    let mid = g.F.Flash.state c.prepare.new.flash in
    let new = g.F.Flash.state c.put_next.new.flash in
    let less = (c.in_ok-prepare.ensures.light.ok refl).faults in
    let more = lights_faults mid new c.put_next.result c.put_next.ensures.light in
    let run = (goal.at.returns-clause-pause g c).After-put_next in
    let pause = c.in_ok-prepare.ensures.pause extra (omega (arith, roomy, more)) in
    let short_again : IsBrief 35 2 old mid → IsBrief 37 2 old new = λ short.
    short_then 35 2 37 old mid new (omega arith) short c.put_next.ensures.work more c.put_next.ensures.erases in
    record {
      short = λ pace. short_again (pause.short pace);
      stays = λ pace ok. found_so pages slots sectors start new.words (extra + failed_since old new) last _
          (holds_ok c.put_next.result c.put_next.ensures.ready ok)
          (put_pace g run (extra + failed_since old mid) (extra + failed_since old new) (pause.stays pace refl)
          (omega (arith, more)));
      long = λ same ok. ⊎_elim
          (λ (short : IsBrief 35 2 old mid). inl (short_again short))
          (λ (stepped : HasStepped pages slots sectors (extra + failed_since old mid) place).
          inr (found_so pages slots sectors start new.words (extra + failed_since old new) last _
          (holds_ok c.put_next.result c.put_next.ensures.ready ok)
          (put_pace g run (extra + failed_since old mid) (extra + failed_since old new) stepped (omega (arith, more)))))
          (pause.long (omega (arith, same, less, more)) refl);
    }

pub returns-in_err-prepare-clause-calm : goal.returns-in_err-prepare-clause-calm
returns-in_err-prepare-clause-calm g c = λ far same.
    let no_value = failed_not_ok c.from_residual.result c.from_residual.ensures.0 in
    let known = free_known g.F.Flash.PAGES g.F.Flash.SLOTS g.F.Flash.SECTORS c.args.place.now
    (lead_of g.F.Flash.PAGES g.F.Flash.SECTORS) far in
    let idle = c.prepare.ensures.idle known.0 known.1 in
    let first = idle.operations same in
    record {
      operations = omega (arith, first);
      fewer = λ none. let still = idle.none none in omega (arith, still);
      erases = idle.erases;
      slots = λ ok. absurd (no_value ok);
    }

pub returns-clause-calm : goal.returns-clause-calm
returns-clause-calm g c = λ far same.
    let slots = g.F.Flash.SLOTS in
    let pages = g.F.Flash.PAGES in
    let sectors = g.F.Flash.SECTORS in
    let mid = g.F.Flash.state c.prepare.new.flash in
    let new = g.F.Flash.state c.put_next.new.flash in
    let less = (c.in_ok-prepare.ensures.light.ok refl).faults in
    let more = lights_faults mid new c.put_next.result c.put_next.ensures.light in
    let known = free_known pages slots sectors c.args.place.now (lead_of pages sectors) far in
    let idle = c.prepare.ensures.idle known.0 known.1 in
    let first = idle.operations (omega (arith, same, less, more)) in
    let last = c.put_next.ensures.work in
    let here = idle.next in
    let due = known.1 in
    record {
      operations = omega (arith, first, last);
      fewer = λ none. let still = idle.none none in omega (arith, still, last);
      erases = c.put_next.ensures.erases ∙ idle.erases;
      slots = λ ok.
          let before = free_of pages slots sectors c.args.place.now known.0 in
          let next = holds_ok c.put_next.result c.put_next.ensures.next ok in
          let after = free_of pages slots sectors c.put_next.new.place
          (holds_ok c.put_next.result c.put_next.ensures.ready ok) in
          omega (arith, before, due, here, next, after);
    }

-- Where the pages moved, the slots behind them are free, and none of the next move is given up.
put_regains : (g : Over) (c : After-put_next g) (extra : ℕ)
    → (c.prepare.new.place.next < g.F.Flash.PAGES + steps_of g.F.Flash.PAGES + extra)
    × (c.prepare.new.place.behind ≡ 0)
    → c.put_next.new.place.ready ≡ true → c.put_next.new.place.next ≡ c.prepare.new.place.next + 1
    → (g.F.Flash.SLOTS ≤ free_slots g.F.Flash.SLOTS c.put_next.new.place + g.F.Flash.PAGES
    + steps_of g.F.Flash.PAGES + extra) × (extra_slots c.put_next.new.place ≡ 0)
put_regains g c = λ extra z ready next.
    let slots = g.F.Flash.SLOTS in
    let lt = z.0 in
    let none = z.1 in
    let last = c.put_next.new.place in
    let free = free_of g.F.Flash.PAGES slots g.F.Flash.SECTORS last ready in
    let behind = c.put_next.ensures.behind in
    let given : extra_slots last ≡ last.behind - copies_most last.copied 0 =
    ap (λ (b : Bool). if b then last.behind - copies_most last.copied 0 else 0) ready in
    (omega (arith, lt, free, next), omega (arith, none, behind, given))

pub returns-clause-regains : goal.returns-clause-regains
returns-clause-regains g c = ok_holds c.put_next.result (λ ok extra roomy same pace grown.
    let slots = g.F.Flash.SLOTS in
    let pages = g.F.Flash.PAGES in
    let sectors = g.F.Flash.SECTORS in
    let mid = g.F.Flash.state c.prepare.new.flash in
    let new = g.F.Flash.state c.put_next.new.flash in
    let less = (c.in_ok-prepare.ensures.light.ok refl).faults in
    let more = lights_faults mid new c.put_next.result c.put_next.ensures.light in
    let moves = c.in_ok-prepare.ensures.moves_well extra roomy (omega (arith, same, less, more)) pace in
    let before = free_of pages slots sectors c.args.place.now pace.ready in
    let ready = holds_ok c.put_next.result c.put_next.ensures.ready ok in
    let next = holds_ok c.put_next.result c.put_next.ensures.next ok in
    let after = free_of pages slots sectors c.put_next.new.place ready in
    ⊎_elim
    (λ (e : c.prepare.new.place.next ≡ c.args.place.now.next). absurd (omega (arith, grown, before, after, next, e)))
    (λ (z : (c.prepare.new.place.next < pages + steps_of pages + extra) × (c.prepare.new.place.behind ≡ 0)).
    put_regains g (goal.at.returns-clause-regains g c).After-put_next extra z ready next)
    moves.next)

pub returns-clause-regains_found : goal.returns-clause-regains_found
returns-clause-regains_found g c = ok_holds c.put_next.result (λ ok extra roomy same stands n finds grown.
    let slots = g.F.Flash.SLOTS in
    let pages = g.F.Flash.PAGES in
    let sectors = g.F.Flash.SECTORS in
    let mid = g.F.Flash.state c.prepare.new.flash in
    let new = g.F.Flash.state c.put_next.new.flash in
    let less = (c.in_ok-prepare.ensures.light.ok refl).faults in
    let more = lights_faults mid new c.put_next.result c.put_next.ensures.light in
    let moves = c.in_ok-prepare.ensures.moves_found extra roomy (omega (arith, same, less, more)) stands n finds in
    let ready = holds_ok c.put_next.result c.put_next.ensures.ready ok in
    let next = holds_ok c.put_next.result c.put_next.ensures.next ok in
    let after = free_of pages slots sectors c.put_next.new.place ready in
    ⊎_elim
    (λ (all : slots ≤ c.prepare.new.place.next + n). absurd (omega (arith, grown, after, next, all)))
    (λ (z : (c.prepare.new.place.next < pages + steps_of pages + extra) × (c.prepare.new.place.behind ≡ 0)).
    put_regains g (goal.at.returns-clause-regains_found g c).After-put_next extra z ready next)
    moves.next)

pub returns-in_err-prepare-clause-lost : goal.returns-in_err-prepare-clause-lost
returns-in_err-prepare-clause-lost g c = c.prepare.ensures.lost

pub returns-clause-lost : goal.returns-clause-lost
returns-clause-lost g c = λ extra roomy same pace none.
    let old = g.F.Flash.state c.args.flash.now in
    let mid = g.F.Flash.state c.prepare.new.flash in
    let new = g.F.Flash.state c.put_next.new.flash in
    let less = (c.in_ok-prepare.ensures.light.ok refl).faults in
    let more = lights_faults mid new c.put_next.result c.put_next.ensures.light in
    c.put_next.ensures.in_pace extra
    (stepped_more g.F.Flash.PAGES g.F.Flash.SLOTS g.F.Flash.SECTORS (extra + failed_since old mid) extra
    c.prepare.new.place (omega (arith, same, less, more))
    ((c.in_ok-prepare.ensures.pause extra (omega (arith, roomy, same, less, more))).stays pace refl))

pub returns-in_err-prepare-clause-stands : goal.returns-in_err-prepare-clause-stands
returns-in_err-prepare-clause-stands g c = λ extra roomy stands.
    let given = extra + lost_since (g.F.Flash.state c.args.flash.now) (g.F.Flash.state c.prepare.new.flash) in
    stands_more g.F.Flash.PAGES g.F.Flash.SLOTS g.F.Flash.SECTORS g.F.Flash.sector_start
    (g.F.Flash.state c.prepare.new.flash).words given given c.prepare.new.place (omega arith)
    (stepped_paced g.F.Flash.PAGES g.F.Flash.SLOTS g.F.Flash.SECTORS given c.prepare.new.place)
    (c.prepare.ensures.stands extra roomy stands)

pub returns-clause-stands : goal.returns-clause-stands
returns-clause-stands g c = λ extra roomy pace.
    let old = g.F.Flash.state c.args.flash.now in
    let mid = g.F.Flash.state c.prepare.new.flash in
    let new = g.F.Flash.state c.put_next.new.flash in
    let more = lights_faults mid new c.put_next.result c.put_next.ensures.light in
    put_pace g (goal.at.returns-clause-stands g c).After-put_next (extra + failed_since old mid)
    (extra + lost_since old new) ((c.in_ok-prepare.ensures.pause extra (omega (arith, roomy, more))).stays pace refl)
    (omega (arith, more))

pub returns-in_err-prepare-clause-slots : goal.returns-in_err-prepare-clause-slots
returns-in_err-prepare-clause-slots g c = λ n far takes.
    finds_takes g.F.Flash.SLOTS n _ _ (c.prepare.ensures.turns n far takes)

pub returns-clause-slots : goal.returns-clause-slots
returns-clause-slots g c = λ n far takes.
    let slots = g.F.Flash.SLOTS in
    let pages = g.F.Flash.PAGES in
    let sectors = g.F.Flash.SECTORS in
    let old = g.F.Flash.state c.args.flash.now in
    let mid = g.F.Flash.state c.prepare.new.flash in
    let new = g.F.Flash.state c.put_next.new.flash in
    let q = c.prepare.new.place in
    let ready = c.in_ok-prepare.ensures.ready in
    let known = c.prepare.ensures.log.known ready in
    let found = c.prepare.ensures.turns n far takes in
    let next = next_is pages slots sectors mid q n ready
    (subst (λ (t : ℕ). AreFree mid.words (base_in slots t) q.next slots) known.turn known.free) found.takes in
    finds_then slots n 1 (log_value pages slots sectors old c.args.place.now) (log_value pages slots sectors mid q)
    (log_value pages slots sectors new c.put_next.new.place) found
    (subst (λ (k : ℕ). TakesInTurn slots k 1 (log_value pages slots sectors mid q)
    (log_value pages slots sectors new c.put_next.new.place)) next
    (c.put_next.ensures.slots (extra_slots q)
    (far_stepped pages slots sectors q (extra_slots q) (omega (arith, next, far))
    (takes_pace pages slots sectors mid q n ready found.takes))))

pub returns-in_err-prepare-clause-once : goal.returns-in_err-prepare-clause-once
returns-in_err-prepare-clause-once g c = λ n far takes. (c.prepare.ensures.turns n far takes).once

pub returns-clause-once : goal.returns-clause-once
returns-clause-once g c = λ n far takes.
    let mid = g.F.Flash.state c.prepare.new.flash in
    let new = g.F.Flash.state c.put_next.new.flash in
    put_once g.F.Flash.PAGES g.F.Flash.SLOTS g.F.Flash.SECTORS (g.F.Flash.state c.args.flash.now) mid new
    c.args.place.now c.prepare.new.place n c.in_ok-prepare.ensures.ready (c.prepare.ensures.turns n far takes)
    (lights_once mid new c.put_next.result c.put_next.ensures.light)

pub returns-in_err-prepare-clause-begins : goal.returns-in_err-prepare-clause-begins
returns-in_err-prepare-clause-begins g c = λ extra n roomy stands stays begins.
    begins_later g.F.Flash.SLOTS
    (log_value g.F.Flash.PAGES g.F.Flash.SLOTS g.F.Flash.SECTORS (g.F.Flash.state c.prepare.new.flash)
    c.prepare.new.place) n (n + 1) (omega arith)
    (c.prepare.ensures.begins extra n roomy stands stays begins)

pub returns-clause-begins : goal.returns-clause-begins
returns-clause-begins g c = λ extra n roomy stands stays begins.
    let slots = g.F.Flash.SLOTS in
    let pages = g.F.Flash.PAGES in
    let sectors = g.F.Flash.SECTORS in
    let old = g.F.Flash.state c.args.flash.now in
    let mid = g.F.Flash.state c.prepare.new.flash in
    let new = g.F.Flash.state c.put_next.new.flash in
    let q = c.prepare.new.place in
    let more = lights_faults mid new c.put_next.result c.put_next.ensures.light in
    let ready = c.in_ok-prepare.ensures.ready in
    let known = c.prepare.ensures.log.known ready in
    let here = c.prepare.ensures.begins extra n (omega (arith, roomy, more)) stands
    (sym (ap (base_in slots) c.put_next.ensures.turn) ∙ stays) begins in
    let most = begins_next pages slots sectors mid q n ready
    (subst (λ (t : ℕ). AreFree mid.words (base_in slots t) q.next slots) known.turn known.free) here in
    begins_behind slots q.next 1 (n + 1) (log_value pages slots sectors mid q)
    (log_value pages slots sectors new c.put_next.new.place) (omega (arith, most))
    (c.put_next.ensures.slots (extra + failed_since old mid)
    ((c.in_ok-prepare.ensures.pause extra (omega (arith, roomy, more))).stays stands refl))

pub returns-clause-steps : goal.returns-clause-steps
returns-clause-steps g c = ok_holds c.put_next.result (λ ok extra roomy same pace due stays.
    let slots = g.F.Flash.SLOTS in
    let mid = g.F.Flash.state c.prepare.new.flash in
    let new = g.F.Flash.state c.put_next.new.flash in
    let less = (c.in_ok-prepare.ensures.light.ok refl).faults in
    let more = lights_faults mid new c.put_next.result c.put_next.ensures.light in
    let step = c.put_next.ensures.step in
    let one = c.in_ok-prepare.ensures.steps extra roomy (omega (arith, same, less, more)) pace due
    (sym (ap (base_in slots) c.put_next.ensures.turn) ∙ stays) in
    omega (arith, step, one))

pub returns-clause-holds : goal.returns-clause-holds
returns-clause-holds g c = λ failed kept.
    err_holds c.put_next.result c.put_next.ensures.holds failed (c.goes_on.ensures.yes kept)

-- In pace the move that is under way is due.
put_goes_on : (g : Over) (c : After-put_next g) → (extra : ℕ)
    → HasStepped g.F.Flash.PAGES g.F.Flash.SLOTS g.F.Flash.SECTORS extra c.prepare.new.place
    → c.goes_on.result ≡ true
put_goes_on g c = λ extra stepped. ⊎_elim
    (λ (yes : c.goes_on.result ≡ true). yes)
    (λ (no : c.goes_on.result ≡ false).
    let early = c.goes_on.ensures.no no in
    let due = stepped.goes_on early.0 in
    let late = early.1 in
    absurd (omega (arith, due, late)))
    (cases_Bool c.goes_on.result)

pub returns-clause-keeps : goal.returns-clause-keeps
returns-clause-keeps g c = λ failed extra roomy pace.
    let old = g.F.Flash.state c.args.flash.now in
    let mid = g.F.Flash.state c.prepare.new.flash in
    let new = g.F.Flash.state c.put_next.new.flash in
    let more = lights_faults mid new c.put_next.result c.put_next.ensures.light in
    let given = extra + lost_since old new in
    let run = (goal.at.returns-clause-keeps g c).After-put_next in
    let stepped = (c.in_ok-prepare.ensures.pause extra (omega (arith, roomy, more))).stays pace refl in
    record {
      known = λ e. err_holds c.put_next.result c.put_next.ensures.paces failed given
          (stepped_more g.F.Flash.PAGES g.F.Flash.SLOTS g.F.Flash.SECTORS (extra + failed_since old mid) given
          c.prepare.new.place (omega (arith, more)) stepped);
      looks = λ e. absurd (true≢false (sym (put_goes_on g run (extra + failed_since old mid) stepped) ∙ e));
    }

pub returns-clause-untried : goal.returns-clause-untried
returns-clause-untried g c = λ failed kept extra n roomy pace.
    let old = g.F.Flash.state c.args.flash.now in
    let mid = g.F.Flash.state c.prepare.new.flash in
    let new = g.F.Flash.state c.put_next.new.flash in
    let more = lights_faults mid new c.put_next.result c.put_next.ensures.light in
    let stepped = (c.in_ok-prepare.ensures.pause extra (omega (arith, roomy, more))).stays pace refl in
    absurd (true≢false (sym (put_goes_on g (goal.at.returns-clause-untried g c).After-put_next
    (extra + failed_since old mid) stepped) ∙ kept))

pub returns-clause-beside : goal.returns-clause-beside
returns-clause-beside g c = λ failed kept extra roomy pace.
    let slots = g.F.Flash.SLOTS in
    let pages = g.F.Flash.PAGES in
    let sectors = g.F.Flash.SECTORS in
    let mid = g.F.Flash.state c.prepare.new.flash in
    let new = g.F.Flash.state c.put_next.new.flash in
    let p = c.args.place.now in
    let q = c.prepare.new.place in
    let more = lights_faults mid new c.put_next.result c.put_next.ensures.light in
    let step = c.put_next.ensures.step in
    let tried = c.put_next.ensures.tried in
    ⊎_elim
    (λ (one : (steps_left pages sectors q + 1 ≡ steps_left pages sectors p) × (q.next ≡ p.next)).
    let fewer = one.0 in
    let next = one.1 in
    inl (omega (arith, step, fewer), omega (arith, tried, next)))
    (λ (far : q.next + lead_of pages sectors < slots).
    let most = steps_most pages slots sectors q in
    inr (omega (arith, step, tried, far, most)))
    ((c.in_ok-prepare.ensures.ends extra (omega (arith, roomy, more)) pace).fewer)
