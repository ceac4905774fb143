use Rattle.std.proofs.Common.{◌≡◌, ◌<◌, ◌≤◌, ◌+◌, ◌-◌, ◌*◌, ℕ, true, length}
use Rattle.std.proofs.Common.{Err, refl, ap, sym, inl, inr, ⊎_elim, subst, ◌∙◌, arith, true≢false}
use Rattle.std.proofs.lemmas.Bool.{cases_lt}
use Rattle.nvm_board.specs.declared.board.DeviceErr.{DeviceErr}
use Rattle.flash_device.specs.FlashCalls.{KeepsPower, Tries}
use Rattle.flash_device.specs.FlashLogs.{words_of}
use Rattle.flash_area.specs.laws.Words.{length-words}
use Rattle.flash_moves.specs.Paces.{steps_left}
use Rattle.flash_moves.specs.Places.{log_value}
use Rattle.flash_log.specs.SlotsInTurn.{BeginsBy, MeetsMoreOrPassesFewer}
use Rattle.flash_log.specs.laws.Keeping.{will_stands}
use Rattle.flash_moves.specs.laws.Lighting.{tries_faults}
use Rattle.flash_log.specs.laws.Retrying.{tries_behind}
use Rattle.flash_log.specs.laws.Beginning.{begins_later}
use Rattle.flash_log.specs.laws.TakingTurns.{passed_of, takes_more, takes_none, takes_then}
use Rattle.flash_moves.specs.laws.Writing.{done_again, whole_again}
use Rattle.flash_log.proofs.tries.try_again.Goals as goal

pub loop-init : goal.loop-init
loop-init g c = record {
  lit = c.requires.lit;
  steady = record { lit = c.requires.lit; due = refl; faults = omega arith };
  most = omega arith;
  operations = omega arith;
  erases = refl;
  stood = λ extra fits stands. stands;
  holds = c.requires.keeps;
  keeps_on = λ kept extra k fits will room. inr (kept, omega (arith, room));
  stays = λ kept. inl (kept, (refl, omega arith));
  turns = λ n far takes. takes_more g.F.Flash.SLOTS n 0 _ _ _ (omega arith) (takes_none g.F.Flash.SLOTS n _ takes);
  met = omega arith;
  unready = c.requires.unready;
  turn = refl;
  begun = λ extra n fits stands begins. begins_later g.F.Flash.SLOTS
      (log_value g.F.Flash.PAGES g.F.Flash.SLOTS g.F.Flash.SECTORS (g.F.Flash.state c.args.flash.now)
      c.args.place.now) n (n + 0) (omega arith) begins;
  log = c.requires.log;
  whole = inl refl;
}

pub loop-preserved : goal.loop-preserved
loop-preserved g c =
    let slots = g.F.Flash.SLOTS in
    let pages = g.F.Flash.PAGES in
    let m = words_of pages slots (g.F.Flash.state c.args.flash.now).words in
    let mid = words_of pages slots (g.F.Flash.state c.loop.flash).words in
    let after = words_of pages slots (g.F.Flash.state c.write_again.new.flash).words in
    let at = 16 * c.args.page + c.args.first in
    let all : length m ≡ 16 * pages = length-words pages slots (g.F.Flash.state c.args.flash.now).words in
    let fits : at + length c.args.words.now ≤ length m = omega (arith, all, c.requires.page, c.requires.run) in
    let sectors = g.F.Flash.SECTORS in
    let was = c.loop.invariant in
    let failed = c.in-Err-Fault.ensures.light.fault (ap Err c.in-Err-Fault.field-0-is) in
    let power = failed.0 in
    let less = was.steady.faults in
    let more = power.faults in
    let once = c.write_again.ensures.once in
    let met = was.most in
    let before = was.operations in
    let work = (c.in-Err-Fault.ensures.failed (ap Err c.in-Err-Fault.field-0-is)).operations in
    let test = c.loop-test.true in
    let old = g.F.Flash.state c.args.flash.now in
    let now = g.F.Flash.state c.loop.flash in
    let new = g.F.Flash.state c.write_again.new.flash in
    let is = ap Err c.in-Err-Fault.field-0-is in
    record {
      lit = power.lit;
      steady = record { lit = power.lit; due = power.due ∙ was.steady.due; faults = omega (arith, less, more) };
      most = omega (arith, met, once);
      operations = omega (arith, before, work);
      erases = c.write_again.ensures.erases ∙ was.erases;
      stood = λ extra few stands. c.in-Err-Fault.ensures.keeps (ap Err c.in-Err-Fault.field-0-is) c.if-place.false extra
          few (was.stood extra few stands);
      holds = c.in-Err-Fault.ensures.holds (ap Err c.in-Err-Fault.field-0-is) c.if-place.false;
      keeps_on = λ kept extra k few will room.
          let rise = c.in-Err-Fault.ensures.failed_once is c.if-place.false in
          let counted = was.met in
          ⊎_elim
          (λ (met : (old.faults < now.faults) × MeetsMoreOrPassesFewer slots k
          (log_value pages slots sectors old c.args.place.now) (log_value pages slots sectors now c.loop.place)).
          let some = met.0 in
          inl (
            omega (arith, some, rise),
            ⊎_elim
                (λ (many : old.faults + k < now.faults). inl (omega (arith, many, rise)))
                (λ (fewer : (n : ℕ) → BeginsBy slots (log_value pages slots sectors old c.args.place.now) n
                → BeginsBy slots (log_value pages slots sectors now c.loop.place) (n + (now.faults - old.faults - 1))).
                inr (λ n begins. begins_later slots (log_value pages slots sectors new c.write_again.new.place)
                (n + (now.faults - old.faults - 1) + 1) (n + (new.faults - old.faults - 1)) (omega (arith, some, rise))
                (c.write_again.ensures.begins extra (n + (now.faults - old.faults - 1)) few (was.stood extra few will)
                (fewer n begins))))
                met.1,
          ))
          (λ (known : (c.loop.kept ≡ true)
          × (steps_left pages sectors c.loop.place + c.loop.place.tried + k < slots + (c.loop.counter - 1))).
          let left = known.1 in
          ⊎_elim
          (λ (some : steps_left pages sectors c.loop.place + c.loop.place.tried < slots). ⊎_elim
          (λ (on : (c.write_again.new.kept ≡ true)
          × (steps_left pages sectors c.write_again.new.place + c.write_again.new.place.tried
          ≡ steps_left pages sectors c.loop.place + c.loop.place.tried + 1)).
          let one = on.1 in
          inr (on.0, omega (arith, left, one, less, met)))
          (λ (none : (n : ℕ) → BeginsBy slots (log_value pages slots sectors now c.loop.place) n
          → BeginsBy slots (log_value pages slots sectors new c.write_again.new.place) n).
          inl (
            omega (arith, less, rise),
            inr (λ n begins. begins_later slots
                (log_value pages slots sectors new c.write_again.new.place) (n + (c.loop.counter - 1))
                (n + (new.faults - old.faults - 1)) (omega (arith, counted, rise))
                (none (n + (c.loop.counter - 1)) (was.begun extra n few will begins))),
          ))
          (c.in-Err-Fault.ensures.beside is c.if-place.false known.0 some))
          (λ (full : slots ≤ steps_left pages sectors c.loop.place + c.loop.place.tried).
          inl (omega (arith, less, rise), inl (omega (arith, full, left, counted, rise))))
          (cases_lt (steps_left pages sectors c.loop.place + c.loop.place.tried) slots))
          (was.keeps_on kept extra k few will room);
      stays = λ kept.
          let later = c.in-Err-Fault.ensures.tried is c.if-place.false in
          let left = steps_left pages sectors c.args.place.now in
          ⊎_elim
          (λ (known : (c.loop.kept ≡ true) × ((steps_left pages sectors c.loop.place ≡ left)
          × (c.loop.place.tried ≤ c.args.place.now.tried + (c.loop.counter - 1)))).
          let same = known.1.0 in
          let few = known.1.1 in
          ⊎_elim
          (λ (some : steps_left pages sectors c.loop.place + c.loop.place.tried < slots).
          let on = c.in-Err-Fault.ensures.known is c.if-place.false known.0 some in
          let one = on.1.1 in
          inl (on.0, (on.1.0 ∙ same, omega (arith, few, one, less, met))))
          (λ (full : slots ≤ steps_left pages sectors c.loop.place + c.loop.place.tried).
          inr (omega (arith, full, same, later), omega (arith, full, same, few)))
          (cases_lt (steps_left pages sectors c.loop.place + c.loop.place.tried) slots))
          (λ (full : (slots ≤ left + c.loop.place.tried)
          × (slots ≤ left + c.args.place.now.tried + (c.loop.counter - 1))).
          let passed = full.0 in
          let few = full.1 in
          inr (omega (arith, passed, later), omega (arith, few)))
          (was.stays kept);
      turns = λ n far takes.
          let first = was.turns n far takes in
          let few = first.few in
          takes_then slots n (c.loop.counter - 1) 1 _ (log_value pages slots sectors old c.args.place.now)
          (log_value pages slots sectors now c.loop.place) (log_value pages slots sectors new c.write_again.new.place)
          (omega (arith, met, less)) first
          (c.write_again.ensures.slots first.next (omega (arith, few, far, test)) first.takes);
      met =
          let rise = c.in-Err-Fault.ensures.failed_once (ap Err c.in-Err-Fault.field-0-is) c.if-place.false in
          let counted = was.met in
          omega (arith, rise, counted);
      unready = c.if-place.false;
      turn = c.write_again.ensures.turn ∙ was.turn;
      begun = λ extra n few stands begins. begins_later slots
          (log_value pages slots sectors new c.write_again.new.place) (n + (c.loop.counter - 1) + 1)
          (n + (c.loop.counter + 1 - 1)) (omega (arith, less, met))
          (c.write_again.ensures.begins extra (n + (c.loop.counter - 1)) few (was.stood extra few stands)
          (was.begun extra n few stands begins));
      log = c.write_again.ensures.log;
      whole = whole_again m mid after c.args.words.now at fits was.whole c.write_again.ensures.whole;
    }

pub returns-in-Ok-clause-whole : goal.returns-in-Ok-clause-whole
returns-in-Ok-clause-whole g c =
    let slots = g.F.Flash.SLOTS in
    let pages = g.F.Flash.PAGES in
    let m = words_of pages slots (g.F.Flash.state c.args.flash.now).words in
    let mid = words_of pages slots (g.F.Flash.state c.loop.flash).words in
    let after = words_of pages slots (g.F.Flash.state c.write_again.new.flash).words in
    let at = 16 * c.args.page + c.args.first in
    let all : length m ≡ 16 * pages = length-words pages slots (g.F.Flash.state c.args.flash.now).words in
    let fits : at + length c.args.words.now ≤ length m = omega (arith, all, c.requires.page, c.requires.run) in
    whole_again m mid after c.args.words.now at fits c.loop.invariant.whole c.write_again.ensures.whole

pub returns-in-Err-PowerLost-clause-whole : goal.returns-in-Err-PowerLost-clause-whole
returns-in-Err-PowerLost-clause-whole g c =
    let slots = g.F.Flash.SLOTS in
    let pages = g.F.Flash.PAGES in
    let m = words_of pages slots (g.F.Flash.state c.args.flash.now).words in
    let mid = words_of pages slots (g.F.Flash.state c.loop.flash).words in
    let after = words_of pages slots (g.F.Flash.state c.write_again.new.flash).words in
    let at = 16 * c.args.page + c.args.first in
    let all : length m ≡ 16 * pages = length-words pages slots (g.F.Flash.state c.args.flash.now).words in
    let fits : at + length c.args.words.now ≤ length m = omega (arith, all, c.requires.page, c.requires.run) in
    whole_again m mid after c.args.words.now at fits c.loop.invariant.whole c.write_again.ensures.whole

pub returns-in-Ok-clause-done : goal.returns-in-Ok-clause-done
returns-in-Ok-clause-done g c =
    let slots = g.F.Flash.SLOTS in
    let pages = g.F.Flash.PAGES in
    let m = words_of pages slots (g.F.Flash.state c.args.flash.now).words in
    let mid = words_of pages slots (g.F.Flash.state c.loop.flash).words in
    let after = words_of pages slots (g.F.Flash.state c.write_again.new.flash).words in
    let at = 16 * c.args.page + c.args.first in
    let all : length m ≡ 16 * pages = length-words pages slots (g.F.Flash.state c.args.flash.now).words in
    let fits : at + length c.args.words.now ≤ length m = omega (arith, all, c.requires.page, c.requires.run) in
    done_again m mid after c.args.words.now at fits c.loop.invariant.whole c.in-Ok.ensures.done

pub returns-in-Ok-clause-light : goal.returns-in-Ok-clause-light
returns-in-Ok-clause-light g c =
    let less = c.loop.invariant.steady.faults in
    tries_behind 0 0 0 (g.F.Flash.state c.args.flash.now) (g.F.Flash.state c.loop.flash)
    (g.F.Flash.state c.write_again.new.flash) _ c.loop.invariant.steady (omega (arith, less)) (omega arith)
    c.in-Ok.ensures.light

pub returns-in-Ok-clause-most : goal.returns-in-Ok-clause-most
returns-in-Ok-clause-most g c =
    let met = c.loop.invariant.most in
    let once = c.write_again.ensures.once in
    let test = c.loop-test.true in
    omega (arith, met, once, test)

pub returns-in-Ok-clause-work : goal.returns-in-Ok-clause-work
returns-in-Ok-clause-work g c = record {
  operations =
      let before = c.loop.invariant.operations in
      let work = c.write_again.ensures.work in
      let more = tries_faults 0 (g.F.Flash.state c.loop.flash) (g.F.Flash.state c.write_again.new.flash)
      c.write_again.result c.write_again.ensures.light in
      omega (arith, before, work, more);
}

pub returns-in-Ok-clause-erases : goal.returns-in-Ok-clause-erases
returns-in-Ok-clause-erases g c =
    c.write_again.ensures.erases ∙ c.loop.invariant.erases

pub returns-in-Ok-clause-slots : goal.returns-in-Ok-clause-slots
returns-in-Ok-clause-slots g c = λ n far takes.
    let slots = g.F.Flash.SLOTS in
    let pages = g.F.Flash.PAGES in
    let sectors = g.F.Flash.SECTORS in
    let old = g.F.Flash.state c.args.flash.now in
    let now = g.F.Flash.state c.loop.flash in
    let new = g.F.Flash.state c.write_again.new.flash in
    let first = c.loop.invariant.turns n far takes in
    let few = first.few in
    let counted = c.loop.invariant.met in
    let test = c.loop-test.true in
    let more = tries_faults 0 now new c.write_again.result c.write_again.ensures.light in
    takes_then slots n (c.loop.counter - 1) 1 _ (log_value pages slots sectors old c.args.place.now)
    (log_value pages slots sectors now c.loop.place) (log_value pages slots sectors new c.write_again.new.place)
    (omega (arith, counted, more)) first
    (c.write_again.ensures.slots first.next (omega (arith, few, far, test)) first.takes)

pub returns-in-Ok-clause-stands : goal.returns-in-Ok-clause-stands
returns-in-Ok-clause-stands g c = λ extra few stands.
    c.write_again.ensures.stands extra few (c.loop.invariant.stood extra few stands)

pub returns-in-Err-PowerLost-clause-light : goal.returns-in-Err-PowerLost-clause-light
returns-in-Err-PowerLost-clause-light g c =
    let less = c.loop.invariant.steady.faults in
    tries_behind 0 0 0 (g.F.Flash.state c.args.flash.now) (g.F.Flash.state c.loop.flash)
    (g.F.Flash.state c.write_again.new.flash) _ c.loop.invariant.steady (omega (arith, less)) (omega arith)
    (subst (λ (e : DeviceErr). Tries 0 (g.F.Flash.state c.loop.flash) (g.F.Flash.state c.write_again.new.flash) (Err e))
    c.in-Err-PowerLost.field-0-is c.in-Err-PowerLost.ensures.light)

pub returns-in-Err-PowerLost-clause-most : goal.returns-in-Err-PowerLost-clause-most
returns-in-Err-PowerLost-clause-most g c =
    let met = c.loop.invariant.most in
    let once = c.write_again.ensures.once in
    let test = c.loop-test.true in
    omega (arith, met, once, test)

pub returns-in-Err-PowerLost-clause-work : goal.returns-in-Err-PowerLost-clause-work
returns-in-Err-PowerLost-clause-work g c = record {
  operations =
      let before = c.loop.invariant.operations in
      let work = c.write_again.ensures.work in
      let more = tries_faults 0 (g.F.Flash.state c.loop.flash) (g.F.Flash.state c.write_again.new.flash)
      c.write_again.result c.write_again.ensures.light in
      omega (arith, before, work, more);
}

pub returns-in-Err-PowerLost-clause-erases : goal.returns-in-Err-PowerLost-clause-erases
returns-in-Err-PowerLost-clause-erases g c =
    c.write_again.ensures.erases ∙ c.loop.invariant.erases

pub returns-in-Err-PowerLost-clause-slots : goal.returns-in-Err-PowerLost-clause-slots
returns-in-Err-PowerLost-clause-slots g c = λ n far takes.
    let slots = g.F.Flash.SLOTS in
    let pages = g.F.Flash.PAGES in
    let sectors = g.F.Flash.SECTORS in
    let old = g.F.Flash.state c.args.flash.now in
    let now = g.F.Flash.state c.loop.flash in
    let new = g.F.Flash.state c.write_again.new.flash in
    let first = c.loop.invariant.turns n far takes in
    let few = first.few in
    let counted = c.loop.invariant.met in
    let test = c.loop-test.true in
    let more = tries_faults 0 now new c.write_again.result c.write_again.ensures.light in
    takes_then slots n (c.loop.counter - 1) 1 _ (log_value pages slots sectors old c.args.place.now)
    (log_value pages slots sectors now c.loop.place) (log_value pages slots sectors new c.write_again.new.place)
    (omega (arith, counted, more)) first
    (c.write_again.ensures.slots first.next (omega (arith, few, far, test)) first.takes)

pub returns-in-Err-PowerLost-clause-stands : goal.returns-in-Err-PowerLost-clause-stands
returns-in-Err-PowerLost-clause-stands g c = λ extra few stands.
    c.write_again.ensures.stands extra few (c.loop.invariant.stood extra few stands)

pub returns-then-place-clause-whole : goal.returns-then-place-clause-whole
returns-then-place-clause-whole g c =
    let slots = g.F.Flash.SLOTS in
    let pages = g.F.Flash.PAGES in
    let m = words_of pages slots (g.F.Flash.state c.args.flash.now).words in
    let mid = words_of pages slots (g.F.Flash.state c.loop.flash).words in
    let after = words_of pages slots (g.F.Flash.state c.write_again.new.flash).words in
    let at = 16 * c.args.page + c.args.first in
    let all : length m ≡ 16 * pages = length-words pages slots (g.F.Flash.state c.args.flash.now).words in
    let fits : at + length c.args.words.now ≤ length m = omega (arith, all, c.requires.page, c.requires.run) in
    whole_again m mid after c.args.words.now at fits c.loop.invariant.whole c.write_again.ensures.whole

pub returns-then-place-clause-light : goal.returns-then-place-clause-light
returns-then-place-clause-light g c =
    let failed = c.in-Err-Fault.ensures.light.fault (ap Err c.in-Err-Fault.field-0-is) in
    let less = c.loop.invariant.steady.faults in
    let more = failed.0.faults in
    let power : KeepsPower (g.F.Flash.state c.args.flash.now) (g.F.Flash.state c.write_again.new.flash) = record {
      lit = failed.0.lit;
      due = failed.0.due ∙ c.loop.invariant.steady.due;
      faults = omega (arith, less, more);
    } in
    record {
      ok = λ e. absurd (true≢false (sym e));
      lost = λ e. absurd cc;
      fault = λ e. (power, omega (arith, less, more));
    }

pub returns-then-place-clause-most : goal.returns-then-place-clause-most
returns-then-place-clause-most g c =
    let met = c.loop.invariant.most in
    let once = c.write_again.ensures.once in
    let test = c.loop-test.true in
    omega (arith, met, once, test)

pub returns-then-place-clause-tries : goal.returns-then-place-clause-tries
returns-then-place-clause-tries g c = λ n far takes failed.
    let first = c.loop.invariant.turns n far takes in
    let few = first.few in
    let test = c.loop-test.true in
    absurd (true≢false (sym c.if-place.true ∙ c.in-Err-Fault.ensures.slotted first.next (omega (arith, few, far, test))
    first.takes (ap Err c.in-Err-Fault.field-0-is)))

pub returns-then-place-clause-gives_up : goal.returns-then-place-clause-gives_up
returns-then-place-clause-gives_up g c = λ failed.
    inr (c.in-Err-Fault.ensures.gives_up (ap Err c.in-Err-Fault.field-0-is) c.if-place.true)

pub returns-then-place-clause-work : goal.returns-then-place-clause-work
returns-then-place-clause-work g c = record {
  operations =
      let before = c.loop.invariant.operations in
      let work = (c.in-Err-Fault.ensures.failed (ap Err c.in-Err-Fault.field-0-is)).operations in
      omega (arith, before, work);
}

pub returns-then-place-clause-erases : goal.returns-then-place-clause-erases
returns-then-place-clause-erases g c = c.write_again.ensures.erases ∙ c.loop.invariant.erases

pub returns-then-place-clause-slots : goal.returns-then-place-clause-slots
returns-then-place-clause-slots g c = λ n far takes.
    let slots = g.F.Flash.SLOTS in
    let pages = g.F.Flash.PAGES in
    let sectors = g.F.Flash.SECTORS in
    let old = g.F.Flash.state c.args.flash.now in
    let now = g.F.Flash.state c.loop.flash in
    let new = g.F.Flash.state c.write_again.new.flash in
    let first = c.loop.invariant.turns n far takes in
    let few = first.few in
    let counted = c.loop.invariant.met in
    let test = c.loop-test.true in
    let more = tries_faults 0 now new c.write_again.result c.write_again.ensures.light in
    takes_then slots n (c.loop.counter - 1) 1 _ (log_value pages slots sectors old c.args.place.now)
    (log_value pages slots sectors now c.loop.place) (log_value pages slots sectors new c.write_again.new.place)
    (omega (arith, counted, more)) first
    (c.write_again.ensures.slots first.next (omega (arith, few, far, test)) first.takes)

pub returns-then-place-clause-stands : goal.returns-then-place-clause-stands
returns-then-place-clause-stands g c = λ extra few stands.
    c.write_again.ensures.stands extra few (c.loop.invariant.stood extra few stands)

pub returns-clause-gives_up : goal.returns-clause-gives_up
returns-clause-gives_up g c = λ failed.
    let counted = c.loop.invariant.met in
    let test = c.loop-test.false in
    inl (omega (arith, counted, test))

pub returns-clause-light : goal.returns-clause-light
returns-clause-light g c = record {
  ok = λ e. absurd (true≢false (sym e));
  lost = λ e. absurd cc;
  fault = λ e. (c.loop.invariant.steady, let less = c.loop.invariant.steady.faults in omega (arith, less));
}

pub returns-clause-most : goal.returns-clause-most
returns-clause-most g c =
    let met = c.loop.invariant.most in
    let test = c.loop-test.false in
    let end = c.loop.auto.counter-end in
    omega (arith, met, test, end)

pub returns-clause-tries : goal.returns-clause-tries
returns-clause-tries g c = λ n far takes failed.
    let counted = c.loop.invariant.met in
    let test = c.loop-test.false in
    omega (arith, counted, test)

pub returns-clause-work : goal.returns-clause-work
returns-clause-work g c = record {
  operations = let before = c.loop.invariant.operations in omega (arith, before);
}

pub returns-clause-slots : goal.returns-clause-slots
returns-clause-slots g c = λ n far takes.
    let first = c.loop.invariant.turns n far takes in
    let counted = c.loop.invariant.met in
    takes_more g.F.Flash.SLOTS n (c.loop.counter - 1) _ _ _ (omega (arith, counted)) first

pub returns-in-Ok-clause-turn : goal.returns-in-Ok-clause-turn
returns-in-Ok-clause-turn g c = c.write_again.ensures.turn ∙ c.loop.invariant.turn

pub returns-in-Ok-clause-begins : goal.returns-in-Ok-clause-begins
returns-in-Ok-clause-begins g c = λ extra n few stands begins.
    let counted = c.loop.invariant.met in
    let more = tries_faults 0 (g.F.Flash.state c.loop.flash) (g.F.Flash.state c.write_again.new.flash)
    c.write_again.result c.write_again.ensures.light in
    begins_later g.F.Flash.SLOTS
    (log_value g.F.Flash.PAGES g.F.Flash.SLOTS g.F.Flash.SECTORS (g.F.Flash.state c.write_again.new.flash)
    c.write_again.new.place) (n + (c.loop.counter - 1) + 1) (n + 1 + ((g.F.Flash.state c.write_again.new.flash).faults
    - (g.F.Flash.state c.args.flash.now).faults)) (omega (arith, counted, more))
    (c.write_again.ensures.begins extra (n + (c.loop.counter - 1)) few (c.loop.invariant.stood extra few stands)
    (c.loop.invariant.begun extra n few stands begins))

pub returns-in-Err-PowerLost-clause-turn : goal.returns-in-Err-PowerLost-clause-turn
returns-in-Err-PowerLost-clause-turn g c = c.write_again.ensures.turn ∙ c.loop.invariant.turn

pub returns-in-Err-PowerLost-clause-begins : goal.returns-in-Err-PowerLost-clause-begins
returns-in-Err-PowerLost-clause-begins g c = λ extra n few stands begins.
    let counted = c.loop.invariant.met in
    let more = tries_faults 0 (g.F.Flash.state c.loop.flash) (g.F.Flash.state c.write_again.new.flash)
    c.write_again.result c.write_again.ensures.light in
    begins_later g.F.Flash.SLOTS
    (log_value g.F.Flash.PAGES g.F.Flash.SLOTS g.F.Flash.SECTORS (g.F.Flash.state c.write_again.new.flash)
    c.write_again.new.place) (n + (c.loop.counter - 1) + 1) (n + 1 + ((g.F.Flash.state c.write_again.new.flash).faults
    - (g.F.Flash.state c.args.flash.now).faults)) (omega (arith, counted, more))
    (c.write_again.ensures.begins extra (n + (c.loop.counter - 1)) few (c.loop.invariant.stood extra few stands)
    (c.loop.invariant.begun extra n few stands begins))

pub returns-then-place-clause-turn : goal.returns-then-place-clause-turn
returns-then-place-clause-turn g c = c.write_again.ensures.turn ∙ c.loop.invariant.turn

pub returns-then-place-clause-begins : goal.returns-then-place-clause-begins
returns-then-place-clause-begins g c = λ extra n few stands begins.
    let counted = c.loop.invariant.met in
    let more = tries_faults 0 (g.F.Flash.state c.loop.flash) (g.F.Flash.state c.write_again.new.flash)
    c.write_again.result c.write_again.ensures.light in
    begins_later g.F.Flash.SLOTS
    (log_value g.F.Flash.PAGES g.F.Flash.SLOTS g.F.Flash.SECTORS (g.F.Flash.state c.write_again.new.flash)
    c.write_again.new.place) (n + (c.loop.counter - 1) + 1) (n + 1 + ((g.F.Flash.state c.write_again.new.flash).faults
    - (g.F.Flash.state c.args.flash.now).faults)) (omega (arith, counted, more))
    (c.write_again.ensures.begins extra (n + (c.loop.counter - 1)) few (c.loop.invariant.stood extra few stands)
    (c.loop.invariant.begun extra n few stands begins))

pub returns-clause-begins : goal.returns-clause-begins
returns-clause-begins g c = λ extra n few stands begins.
    let counted = c.loop.invariant.met in
    begins_later g.F.Flash.SLOTS
    (log_value g.F.Flash.PAGES g.F.Flash.SLOTS g.F.Flash.SECTORS (g.F.Flash.state c.loop.flash) c.loop.place)
    (n + (c.loop.counter - 1)) (n + 1 + ((g.F.Flash.state c.loop.flash).faults
    - (g.F.Flash.state c.args.flash.now).faults)) (omega (arith, counted))
    (c.loop.invariant.begun extra n few stands begins)

pub returns-then-place-clause-passes : goal.returns-then-place-clause-passes
returns-then-place-clause-passes g c = λ failed extra n few stands begins.
    let counted = c.loop.invariant.met in
    let more = tries_faults 0 (g.F.Flash.state c.loop.flash) (g.F.Flash.state c.write_again.new.flash)
    c.write_again.result c.write_again.ensures.light in
    let now = (g.F.Flash.state c.loop.flash).faults in
    let new = (g.F.Flash.state c.write_again.new.flash).faults in
    begins_later g.F.Flash.SLOTS
    (log_value g.F.Flash.PAGES g.F.Flash.SLOTS g.F.Flash.SECTORS (g.F.Flash.state c.write_again.new.flash)
    c.write_again.new.place) (n + (c.loop.counter - 1) + (new - now))
    (n + (new - (g.F.Flash.state c.args.flash.now).faults)) (omega (arith, counted, more))
    (c.in-Err-Fault.ensures.passes (ap Err c.in-Err-Fault.field-0-is) extra (n + (c.loop.counter - 1)) few
    (c.loop.invariant.stood extra few stands) (c.loop.invariant.begun extra n few stands begins))

pub returns-clause-passes : goal.returns-clause-passes
returns-clause-passes g c = λ failed extra n few stands begins.
    let counted = c.loop.invariant.met in
    begins_later g.F.Flash.SLOTS
    (log_value g.F.Flash.PAGES g.F.Flash.SLOTS g.F.Flash.SECTORS (g.F.Flash.state c.loop.flash) c.loop.place)
    (n + (c.loop.counter - 1)) (n + ((g.F.Flash.state c.loop.flash).faults
    - (g.F.Flash.state c.args.flash.now).faults)) (omega (arith, counted))
    (c.loop.invariant.begun extra n few stands begins)

pub returns-then-place-clause-keeps_on : goal.returns-then-place-clause-keeps_on
returns-then-place-clause-keeps_on g c = λ failed kept extra k few fits will room.
    let slots = g.F.Flash.SLOTS in
    let pages = g.F.Flash.PAGES in
    let sectors = g.F.Flash.SECTORS in
    let old = g.F.Flash.state c.args.flash.now in
    let now = g.F.Flash.state c.loop.flash in
    let new = g.F.Flash.state c.write_again.new.flash in
    let counted = c.loop.invariant.met in
    let more = tries_faults 0 now new c.write_again.result c.write_again.ensures.light in
    let is = ap Err c.in-Err-Fault.field-0-is in
    ⊎_elim
    (λ (met : (old.faults < now.faults) × MeetsMoreOrPassesFewer slots k
    (log_value pages slots sectors old c.args.place.now) (log_value pages slots sectors now c.loop.place)).
    let some = met.0 in (
      omega (arith, some, more),
      ⊎_elim
          (λ (many : old.faults + k < now.faults). inl (omega (arith, many, more)))
          (λ (fewer : (n : ℕ) → BeginsBy slots (log_value pages slots sectors old c.args.place.now) n
          → BeginsBy slots (log_value pages slots sectors now c.loop.place) (n + (now.faults - old.faults - 1))).
          inr (λ n begins. begins_later slots (log_value pages slots sectors new c.write_again.new.place)
          (n + (now.faults - old.faults - 1)) (n + (new.faults - old.faults - 1)) (omega (arith, more))
          (c.in-Err-Fault.ensures.untried is c.if-place.true (n + (now.faults - old.faults - 1)) (fewer n begins))))
          met.1,
    ))
    (λ (known : (c.loop.kept ≡ true)
    × (steps_left pages sectors c.loop.place + c.loop.place.tried + k < slots + (c.loop.counter - 1))).
    let full = c.in-Err-Fault.ensures.full is c.if-place.true known.0 in
    let left = known.1 in
    (omega (arith, full, left, counted, more), inl (omega (arith, full, left, counted, more))))
    (c.loop.invariant.keeps_on kept extra k fits will room)

-- It gave up where what is known leaves no slot.
pub returns-then-place-clause-passes_on : goal.returns-then-place-clause-passes_on
returns-then-place-clause-passes_on g c = λ failed kept.
    let slots = g.F.Flash.SLOTS in
    let pages = g.F.Flash.PAGES in
    let sectors = g.F.Flash.SECTORS in
    let now = g.F.Flash.state c.loop.flash in
    let new = g.F.Flash.state c.write_again.new.flash in
    let left = steps_left pages sectors c.args.place.now in
    let counted = c.loop.invariant.met in
    let more = tries_faults 0 now new c.write_again.result c.write_again.ensures.light in
    let is = ap Err c.in-Err-Fault.field-0-is in
    let later = c.in-Err-Fault.ensures.passed is c.if-place.true in
    let passed = passed_of pages slots sectors new c.write_again.new.place c.if-place.true
    (c.write_again.ensures.log.known c.if-place.true).free.within in
    inr (⊎_elim
    (λ (known : (c.loop.kept ≡ true) × ((steps_left pages sectors c.loop.place ≡ left)
    × (c.loop.place.tried ≤ c.args.place.now.tried + (c.loop.counter - 1)))).
    let full = c.in-Err-Fault.ensures.full is c.if-place.true known.0 in
    let same = known.1.0 in
    let few = known.1.1 in
    (omega (arith, full, same, later, passed), omega (arith, full, same, few, counted, more)))
    (λ (full : (slots ≤ left + c.loop.place.tried)
    × (slots ≤ left + c.args.place.now.tried + (c.loop.counter - 1))).
    let all = full.0 in
    let few = full.1 in
    (omega (arith, all, later, passed), omega (arith, few, counted, more)))
    (c.loop.invariant.stays kept))

pub returns-then-place-clause-no_slot : goal.returns-then-place-clause-no_slot
returns-then-place-clause-no_slot g c = λ failed.
    inr (c.if-place.true, c.in-Err-Fault.ensures.no_slot (ap Err c.in-Err-Fault.field-0-is) c.if-place.true)

pub returns-clause-passes_on : goal.returns-clause-passes_on
returns-clause-passes_on g c = λ failed kept.
    let counted = c.loop.invariant.met in
    let test = c.loop-test.false in
    inl (omega (arith, counted, test))

pub returns-clause-no_slot : goal.returns-clause-no_slot
returns-clause-no_slot g c = λ failed.
    let counted = c.loop.invariant.met in
    let test = c.loop-test.false in
    inl (omega (arith, counted, test))

pub returns-clause-keeps_on : goal.returns-clause-keeps_on
returns-clause-keeps_on g c = λ failed kept extra k few fits will room.
    let counted = c.loop.invariant.met in
    let test = c.loop-test.false in
    (omega (arith, counted, test), inl (omega (arith, counted, test, few)))

pub returns-clause-stands : goal.returns-clause-stands
returns-clause-stands g c = λ extra few will.
    will_stands g.F.Flash.PAGES g.F.Flash.SLOTS g.F.Flash.SECTORS g.F.Flash.sector_start
    (g.F.Flash.state c.loop.flash).words c.args.page c.loop.place c.loop.kept extra c.loop.invariant.unready
    c.loop.invariant.holds (c.loop.invariant.stood extra few will)
