use Rattle.std.proofs.Common.{◌≡◌, ◌⊎◌, ◌<◌, ◌≤◌, ◌+◌, ◌-◌, ◌*◌, ℕ, length, Err, ap, inl, inr, ⊎_elim, arith}
use Rattle.std.proofs.Common.{IsErrOf, false, true, subst, sym, true≢false, ◌∙◌}
use Rattle.nvm_board.specs.declared.board.DeviceErr.TheVariants.{Fault}
use Rattle.std.proofs.lemmas.Bool.{cases_Bool, cases_lt}
use Rattle.std.proofs.lemmas.Result.{on_ok_weaker}
use Rattle.flash_device.specs.FlashCalls.{KeepsPower}
use Rattle.flash_device.specs.FlashLogs.{base_in, words_of}
use Rattle.flash_area.specs.laws.Words.{length-words}
use Rattle.flash_moves.specs.Paces.{IsRoomy, KeepsPace, StaysInArea, WillKeepPace, failed_since, lost_since}
use Rattle.flash_moves.specs.Paces.{steps_left}
use Rattle.flash_moves.specs.Places.{log_value}
use Rattle.flash_moves.specs.declared.ahead.TheConstants.{TRIES}
use Rattle.flash_log.specs.KeptParts.{WillPace}
use Rattle.flash_log.specs.laws.Ending.{will_more}
use Rattle.flash_log.specs.laws.Keeping.{will_pace_more}
use Rattle.flash_moves.specs.laws.Lighting.{tries_faults}
use Rattle.flash_moves.specs.laws.Pacing.{found_so, left_of}
use Rattle.flash_log.specs.SlotsInTurn.{BeginsBy, GivesUp, HasOthersOlder, PassesFewer, passed_slots}
use Rattle.flash_log.specs.laws.Retrying.{holds_ok, ok_holds, tries_behind}
use Rattle.flash_log.specs.laws.Beginning.{begins_later}
use Rattle.flash_log.specs.laws.TakingTurns.{passed_of, takes_more, takes_then}
use Rattle.flash_moves.specs.laws.Writing.{done_again, whole_again}
use Rattle.flash_log.proofs.tries.write_at.Given.{Over}
use Rattle.flash_log.proofs.tries.write_at.Goals.{After-try_again}
use Rattle.flash_log.proofs.tries.write_at.Goals as goal

pub returns-in-Ok-clause-keeps_trying : goal.returns-in-Ok-clause-keeps_trying
returns-in-Ok-clause-keeps_trying g c = λ n far takes. record {
  ok = c.in-Ok.ensures.light.ok;
  lost = c.in-Ok.ensures.light.lost;
  fault = λ e. absurd cc;
}

pub returns-in-Ok-clause-slots : goal.returns-in-Ok-clause-slots
returns-in-Ok-clause-slots g c = λ n far takes.
    takes_more g.F.Flash.SLOTS n 1 _ _ _ (omega arith) (c.in-Ok.ensures.slots n (omega (arith, far)) takes)

pub returns-in-Ok-clause-tries : goal.returns-in-Ok-clause-tries
returns-in-Ok-clause-tries g c = λ n far takes.
    let once = c.in-Ok.ensures.once n (omega (arith, far)) takes in omega (arith, once)

pub returns-in-Err-PowerLost-clause-keeps_trying : goal.returns-in-Err-PowerLost-clause-keeps_trying
returns-in-Err-PowerLost-clause-keeps_trying g c = λ n far takes. record {
  ok = λ e. absurd cc;
  lost = λ e. c.in-Err-PowerLost.ensures.light.lost (ap Err c.in-Err-PowerLost.field-0-is);
  fault = λ e. absurd cc;
}

pub returns-in-Err-PowerLost-clause-slots : goal.returns-in-Err-PowerLost-clause-slots
returns-in-Err-PowerLost-clause-slots g c = λ n far takes.
    takes_more g.F.Flash.SLOTS n 1 _ _ _ (omega arith) (c.in-Err-PowerLost.ensures.slots n (omega (arith, far)) takes)

pub returns-in-Err-PowerLost-clause-tries : goal.returns-in-Err-PowerLost-clause-tries
returns-in-Err-PowerLost-clause-tries g c = λ n far takes.
    let once = c.in-Err-PowerLost.ensures.once n (omega (arith, far)) takes in omega (arith, once)

pub returns-in-Ok-clause-pause : goal.returns-in-Ok-clause-pause
returns-in-Ok-clause-pause g c = c.in-Ok.ensures.pause

pub returns-in-Err-PowerLost-clause-pause : goal.returns-in-Err-PowerLost-clause-pause
returns-in-Err-PowerLost-clause-pause g c = λ extra roomy.
    let pause = c.in-Err-PowerLost.ensures.pause extra roomy in
    record {
      short = pause.short;
      stays = λ pace ok. absurd (true≢false (sym ok));
      long = λ same ok. absurd (true≢false (sym ok));
    }

pub returns-in-Err-PowerLost-clause-calm : goal.returns-in-Err-PowerLost-clause-calm
returns-in-Err-PowerLost-clause-calm g c = λ far same.
    let calm = c.in-Err-PowerLost.ensures.calm far same in
    record {
      operations = calm.operations;
      fewer = calm.fewer;
      erases = calm.erases;
      slots = λ ok. absurd (true≢false (sym ok));
    }

-- The first try failed.
first_failed : (g : Over) (c : After-try_again g)
    → KeepsPower (g.F.Flash.state c.args.flash.now) (g.F.Flash.state c.write_once.new.flash)
    × ((g.F.Flash.state c.args.flash.now).faults + 1 ≤ (g.F.Flash.state c.write_once.new.flash).faults)
first_failed g c = c.in-Err-Fault.ensures.light.fault (ap Err c.in-Err-Fault.field-0-is)

-- So a write met a Fault.
met_fault : (g : Over) (c : After-try_again g)
    → (g.F.Flash.state c.args.flash.now).faults + 1 ≤ (g.F.Flash.state c.try_again.new.flash).faults
met_fault g c =
    let first = (first_failed g c).1 in
    let more = tries_faults 0 (g.F.Flash.state c.write_once.new.flash) (g.F.Flash.state c.try_again.new.flash)
    c.try_again.result c.try_again.ensures.light in
    omega (arith, first, more)

pub returns-clause-whole : goal.returns-clause-whole
returns-clause-whole g c =
    let slots = g.F.Flash.SLOTS in
    let pages = g.F.Flash.PAGES in
    let m = words_of pages slots (g.F.Flash.state c.args.flash.now).words in
    let mid = words_of pages slots (g.F.Flash.state c.write_once.new.flash).words in
    let after = words_of pages slots (g.F.Flash.state c.try_again.new.flash).words in
    let at = 16 * c.args.page + c.args.first in
    let all : length m ≡ 16 * pages = length-words pages slots (g.F.Flash.state c.args.flash.now).words in
    let fits : at + length c.args.words.now ≤ length m = omega (arith, all, c.requires.page, c.requires.run) in
    whole_again m mid after c.args.words.now at fits c.write_once.ensures.whole c.try_again.ensures.whole

pub returns-clause-done : goal.returns-clause-done
returns-clause-done g c =
    let slots = g.F.Flash.SLOTS in
    let pages = g.F.Flash.PAGES in
    let m = words_of pages slots (g.F.Flash.state c.args.flash.now).words in
    let mid = words_of pages slots (g.F.Flash.state c.write_once.new.flash).words in
    let after = words_of pages slots (g.F.Flash.state c.try_again.new.flash).words in
    let at = 16 * c.args.page + c.args.first in
    let all : length m ≡ 16 * pages = length-words pages slots (g.F.Flash.state c.args.flash.now).words in
    let fits : at + length c.args.words.now ≤ length m = omega (arith, all, c.requires.page, c.requires.run) in
    on_ok_weaker c.try_again.result (done_again m mid after c.args.words.now at fits c.write_once.ensures.whole)
    c.try_again.ensures.done

pub returns-clause-light : goal.returns-clause-light
returns-clause-light g c =
    let first = first_failed g (goal.at.returns-clause-light g c).After-try_again in
    tries_behind 1 0 1 (g.F.Flash.state c.args.flash.now) (g.F.Flash.state c.write_once.new.flash)
    (g.F.Flash.state c.try_again.new.flash) c.try_again.result first.0 first.1 (omega arith) c.try_again.ensures.light

pub returns-clause-keeps_trying : goal.returns-clause-keeps_trying
returns-clause-keeps_trying g c = λ n far takes.
    let run = (goal.at.returns-clause-keeps_trying g c).After-try_again in
    let first = first_failed g run in
    let all = tries_behind 1 0 1 (g.F.Flash.state c.args.flash.now) (g.F.Flash.state c.write_once.new.flash)
    (g.F.Flash.state c.try_again.new.flash) c.try_again.result first.0 first.1 (omega arith)
    c.try_again.ensures.light in
    let slot = c.in-Err-Fault.ensures.slots n far takes in
    let few = slot.few in
    record {
      ok = all.ok;
      lost = all.lost;
      fault = λ failed. (
        (all.fault failed).0,
        let met = first.1 in
            let rest = c.try_again.ensures.tries slot.next (omega (arith, few, far)) slot.takes failed in
            omega (arith, met, rest),
      );
    }

pub returns-clause-work : goal.returns-clause-work
returns-clause-work g c = record {
  operations =
      let first = (c.in-Err-Fault.ensures.again (ap Err c.in-Err-Fault.field-0-is)).operations in
      let rest = c.try_again.ensures.work.operations in
      omega (arith, first, rest);
}

-- the log stands in pace behind the first try
first_stands : (g : Over) (c : After-try_again g) (extra : ℕ)
    → IsRoomy g.F.Flash.PAGES g.F.Flash.SLOTS g.F.Flash.SECTORS
    (extra + failed_since (g.F.Flash.state c.args.flash.now) (g.F.Flash.state c.try_again.new.flash))
    → WillKeepPace g.F.Flash.PAGES g.F.Flash.SLOTS g.F.Flash.SECTORS g.F.Flash.sector_start
    (g.F.Flash.state c.args.flash.now).words extra c.args.place.now
    → WillKeepPace g.F.Flash.PAGES g.F.Flash.SLOTS g.F.Flash.SECTORS g.F.Flash.sector_start
    (g.F.Flash.state c.try_again.new.flash).words
    (extra + failed_since (g.F.Flash.state c.args.flash.now) (g.F.Flash.state c.write_once.new.flash))
    c.try_again.new.place
first_stands g c = λ extra roomy stands.
    let slots = g.F.Flash.SLOTS in
    let pages = g.F.Flash.PAGES in
    let sectors = g.F.Flash.SECTORS in
    let start = g.F.Flash.sector_start in
    let old = g.F.Flash.state c.args.flash.now in
    let mid = g.F.Flash.state c.write_once.new.flash in
    let new = g.F.Flash.state c.try_again.new.flash in
    let due = (first_failed g c).0.due in
    let more = tries_faults 0 mid new c.try_again.result c.try_again.ensures.light in
    c.try_again.ensures.stands (extra + failed_since old mid) (omega (arith, roomy, more))
    (will_pace_more pages slots sectors start mid.words c.args.page c.write_once.new.place c.write_once.new.kept
    (extra + lost_since old mid) (extra + failed_since old mid) (omega (arith, due))
    (c.in-Err-Fault.ensures.keeps (ap Err c.in-Err-Fault.field-0-is) extra (omega (arith, roomy, more)) stands))

pub returns-clause-pause : goal.returns-clause-pause
returns-clause-pause g c = λ extra roomy.
    let slots = g.F.Flash.SLOTS in
    let pages = g.F.Flash.PAGES in
    let sectors = g.F.Flash.SECTORS in
    let start = g.F.Flash.sector_start in
    let old = g.F.Flash.state c.args.flash.now in
    let mid = g.F.Flash.state c.write_once.new.flash in
    let new = g.F.Flash.state c.try_again.new.flash in
    let last = c.try_again.new.place in
    let run = (goal.at.returns-clause-pause g c).After-try_again in
    let more = tries_faults 0 mid new c.try_again.result c.try_again.ensures.light in
    let met = met_fault g run in
    record {
      short = λ pace.
          let first = c.in-Err-Fault.ensures.brief (ap Err c.in-Err-Fault.field-0-is) extra (omega (arith, roomy, more))
          pace in
          let begun = first.work.operations in
          let erased = first.erases in
          let rest = c.try_again.ensures.work.operations in
          let erases = c.try_again.ensures.erases in
          record { work = record { operations = omega (arith, begun, rest) }; erases = omega (arith, erased, erases) };
      stays = λ pace ok. found_so pages slots sectors start new.words (extra + failed_since old new) last _
          (holds_ok c.try_again.result c.try_again.ensures.ready ok)
          (will_more pages slots sectors start new.words (extra + failed_since old mid) (extra + failed_since old new)
          last (omega (arith, more)) (first_stands g run extra roomy pace));
      long = λ same ok. absurd (omega (arith, met, same));
    }

pub returns-clause-stands : goal.returns-clause-stands
returns-clause-stands g c = λ extra roomy pace.
    let old = g.F.Flash.state c.args.flash.now in
    let mid = g.F.Flash.state c.write_once.new.flash in
    let new = g.F.Flash.state c.try_again.new.flash in
    let more = tries_faults 0 mid new c.try_again.result c.try_again.ensures.light in
    will_more g.F.Flash.PAGES g.F.Flash.SLOTS g.F.Flash.SECTORS g.F.Flash.sector_start new.words
    (extra + failed_since old mid) (extra + lost_since old new) c.try_again.new.place (omega (arith, more))
    (first_stands g (goal.at.returns-clause-stands g c).After-try_again extra roomy pace)

pub returns-clause-calm : goal.returns-clause-calm
returns-clause-calm g c = λ far same.
    let met = met_fault g (goal.at.returns-clause-calm g c).After-try_again in absurd (omega (arith, met, same))

pub returns-clause-regains : goal.returns-clause-regains
returns-clause-regains g c =
    let met = met_fault g (goal.at.returns-clause-regains g c).After-try_again in
    ok_holds c.try_again.result (λ ok extra roomy same. absurd (omega (arith, met, same)))

pub returns-clause-regains_found : goal.returns-clause-regains_found
returns-clause-regains_found g c =
    let met = met_fault g (goal.at.returns-clause-regains_found g c).After-try_again in
    ok_holds c.try_again.result (λ ok extra roomy same. absurd (omega (arith, met, same)))

pub returns-clause-lost : goal.returns-clause-lost
returns-clause-lost g c = λ extra roomy same.
    let met = met_fault g (goal.at.returns-clause-lost g c).After-try_again in absurd (omega (arith, met, same))

pub returns-clause-slots : goal.returns-clause-slots
returns-clause-slots g c = λ n far takes.
    let slots = g.F.Flash.SLOTS in
    let pages = g.F.Flash.PAGES in
    let sectors = g.F.Flash.SECTORS in
    let old = g.F.Flash.state c.args.flash.now in
    let mid = g.F.Flash.state c.write_once.new.flash in
    let new = g.F.Flash.state c.try_again.new.flash in
    let run = (goal.at.returns-clause-slots g c).After-try_again in
    let first = (first_failed g run).1 in
    let more = tries_faults 0 mid new c.try_again.result c.try_again.ensures.light in
    let slot = c.in-Err-Fault.ensures.slots n (omega (arith, far)) takes in
    let few = slot.few in
    takes_then slots n 1 (1 + (new.faults - mid.faults)) _ (log_value pages slots sectors old c.args.place.now)
    (log_value pages slots sectors mid c.write_once.new.place)
    (log_value pages slots sectors new c.try_again.new.place)
    (omega (arith, first, more)) slot (c.try_again.ensures.slots slot.next (omega (arith, few, far)) slot.takes)

pub returns-clause-tries : goal.returns-clause-tries
returns-clause-tries g c = λ n far takes.
    let once = c.in-Err-Fault.ensures.once n (omega (arith, far)) takes in
    let most = c.try_again.ensures.most in
    omega (arith, once, most)

pub try_again-requires-clause-unready : goal.try_again-requires-clause-unready
try_again-requires-clause-unready g c = c.in-Err-Fault.ensures.unready

pub returns-clause-gives_up : goal.returns-clause-gives_up
returns-clause-gives_up g c = λ failed. ⊎_elim
    (λ (many : (g.F.Flash.state c.write_once.new.flash).faults + TRIES
    ≤ (g.F.Flash.state c.try_again.new.flash).faults + 1).
    let first = (first_failed g (goal.at.returns-clause-gives_up g c).After-try_again).1 in
    inl (omega (arith, many, first)))
    (λ (up : GivesUp g.F.Flash.PAGES g.F.Flash.SLOTS g.F.Flash.SECTORS g.F.Flash.sector_start c.args.page
    (log_value g.F.Flash.PAGES g.F.Flash.SLOTS g.F.Flash.SECTORS (g.F.Flash.state c.try_again.new.flash)
    c.try_again.new.place)). inr up)
    (c.try_again.ensures.gives_up failed)

pub returns-in-Ok-clause-begins : goal.returns-in-Ok-clause-begins
returns-in-Ok-clause-begins g c = λ extra n roomy stands stays begins.
    begins_later g.F.Flash.SLOTS
    (log_value g.F.Flash.PAGES g.F.Flash.SLOTS g.F.Flash.SECTORS (g.F.Flash.state c.write_once.new.flash)
    c.write_once.new.place) (n + 1) (n + 1 + ((g.F.Flash.state c.write_once.new.flash).faults
    - (g.F.Flash.state c.args.flash.now).faults)) (omega arith)
    (c.write_once.ensures.begins extra n roomy stands stays begins)

pub returns-in-Err-PowerLost-clause-begins : goal.returns-in-Err-PowerLost-clause-begins
returns-in-Err-PowerLost-clause-begins g c = λ extra n roomy stands stays begins.
    begins_later g.F.Flash.SLOTS
    (log_value g.F.Flash.PAGES g.F.Flash.SLOTS g.F.Flash.SECTORS (g.F.Flash.state c.write_once.new.flash)
    c.write_once.new.place) (n + 1) (n + 1 + ((g.F.Flash.state c.write_once.new.flash).faults
    - (g.F.Flash.state c.args.flash.now).faults)) (omega arith)
    (c.write_once.ensures.begins extra n roomy stands stays begins)

-- The next write begins behind the first try.
first_begins : (g : Over) (c : After-try_again g) (extra n : ℕ)
    → IsRoomy g.F.Flash.PAGES g.F.Flash.SLOTS g.F.Flash.SECTORS
    (extra + failed_since (g.F.Flash.state c.args.flash.now) (g.F.Flash.state c.try_again.new.flash))
    → WillKeepPace g.F.Flash.PAGES g.F.Flash.SLOTS g.F.Flash.SECTORS g.F.Flash.sector_start
    (g.F.Flash.state c.args.flash.now).words extra c.args.place.now
    → StaysInArea g.F.Flash.SLOTS (g.F.Flash.state c.args.flash.now).words
    (g.F.Flash.state c.try_again.new.flash).words
    → BeginsBy g.F.Flash.SLOTS (log_value g.F.Flash.PAGES g.F.Flash.SLOTS g.F.Flash.SECTORS
    (g.F.Flash.state c.args.flash.now) c.args.place.now) n
    → BeginsBy g.F.Flash.SLOTS (log_value g.F.Flash.PAGES g.F.Flash.SLOTS g.F.Flash.SECTORS
    (g.F.Flash.state c.write_once.new.flash) c.write_once.new.place) (n + 1)
first_begins g c = λ extra n roomy stands stays begins.
    let mid = g.F.Flash.state c.write_once.new.flash in
    let more = tries_faults 0 mid (g.F.Flash.state c.try_again.new.flash) c.try_again.result
    c.try_again.ensures.light in
    c.write_once.ensures.begins extra n (omega (arith, roomy, more)) stands
    (sym (ap (base_in g.F.Flash.SLOTS) c.try_again.ensures.turn) ∙ stays) begins

-- What the first try leaves known will be in pace.
first_paces : (g : Over) (c : After-try_again g) (extra : ℕ) → IsRoomy g.F.Flash.PAGES g.F.Flash.SLOTS g.F.Flash.SECTORS
    (extra + failed_since (g.F.Flash.state c.args.flash.now) (g.F.Flash.state c.try_again.new.flash))
    → WillKeepPace g.F.Flash.PAGES g.F.Flash.SLOTS g.F.Flash.SECTORS g.F.Flash.sector_start
    (g.F.Flash.state c.args.flash.now).words extra c.args.place.now
    → WillPace c.write_once.new.kept g.F.Flash.PAGES g.F.Flash.SLOTS g.F.Flash.SECTORS g.F.Flash.sector_start
    (g.F.Flash.state c.write_once.new.flash).words
    (extra + failed_since (g.F.Flash.state c.args.flash.now) (g.F.Flash.state c.write_once.new.flash))
    c.write_once.new.place
first_paces g c = λ extra roomy stands.
    let slots = g.F.Flash.SLOTS in
    let old = g.F.Flash.state c.args.flash.now in
    let mid = g.F.Flash.state c.write_once.new.flash in
    let due = (first_failed g c).0.due in
    let more = tries_faults 0 mid (g.F.Flash.state c.try_again.new.flash) c.try_again.result
    c.try_again.ensures.light in
    will_pace_more g.F.Flash.PAGES slots g.F.Flash.SECTORS g.F.Flash.sector_start mid.words c.args.page
    c.write_once.new.place c.write_once.new.kept (extra + lost_since old mid) (extra + failed_since old mid)
    (omega (arith, due))
    (c.in-Err-Fault.ensures.keeps (ap Err c.in-Err-Fault.field-0-is) extra (omega (arith, roomy, more)) stands)

pub returns-clause-begins : goal.returns-clause-begins
returns-clause-begins g c = λ extra n roomy stands stays begins.
    let slots = g.F.Flash.SLOTS in
    let pages = g.F.Flash.PAGES in
    let sectors = g.F.Flash.SECTORS in
    let old = g.F.Flash.state c.args.flash.now in
    let mid = g.F.Flash.state c.write_once.new.flash in
    let new = g.F.Flash.state c.try_again.new.flash in
    let run = (goal.at.returns-clause-begins g c).After-try_again in
    let met = (first_failed g run).1 in
    let more = tries_faults 0 mid new c.try_again.result c.try_again.ensures.light in
    let one = first_begins g run extra n roomy stands stays begins in
    let will = first_paces g run extra roomy stands in
    begins_later slots (log_value pages slots sectors new c.try_again.new.place)
    (n + 1 + 1 + (new.faults - mid.faults)) (n + 1 + (new.faults - old.faults)) (omega (arith, met, more))
    (c.try_again.ensures.begins (extra + failed_since old mid) (n + 1) (omega (arith, roomy, more)) will one)

pub returns-clause-passes : goal.returns-clause-passes
returns-clause-passes g c = λ failed extra n roomy stands stays begins.
    let slots = g.F.Flash.SLOTS in
    let pages = g.F.Flash.PAGES in
    let sectors = g.F.Flash.SECTORS in
    let old = g.F.Flash.state c.args.flash.now in
    let mid = g.F.Flash.state c.write_once.new.flash in
    let new = g.F.Flash.state c.try_again.new.flash in
    let run = (goal.at.returns-clause-passes g c).After-try_again in
    let met = (first_failed g run).1 in
    let more = tries_faults 0 mid new c.try_again.result c.try_again.ensures.light in
    let one = first_begins g run extra n roomy stands stays begins in
    let will = first_paces g run extra roomy stands in
    begins_later slots (log_value pages slots sectors new c.try_again.new.place)
    (n + 1 + (new.faults - mid.faults)) (n + (new.faults - old.faults)) (omega (arith, met, more))
    (c.try_again.ensures.passes failed (extra + failed_since old mid) (n + 1) (omega (arith, roomy, more)) will one)

pub returns-in-Ok-clause-steps : goal.returns-in-Ok-clause-steps
returns-in-Ok-clause-steps g c = c.in-Ok.ensures.steps

pub returns-clause-steps : goal.returns-clause-steps
returns-clause-steps g c =
    let met = met_fault g (goal.at.returns-clause-steps g c).After-try_again in
    ok_holds c.try_again.result (λ ok extra roomy same. absurd (omega (arith, met, same)))

-- Where the record wasn't tried at first, one Fault took no slot.
untried_fewer : (g : Over) (c : After-try_again g) (extra : ℕ) → IsErrOf c.try_again.result Fault
    → IsRoomy g.F.Flash.PAGES g.F.Flash.SLOTS g.F.Flash.SECTORS
    (extra + failed_since (g.F.Flash.state c.args.flash.now) (g.F.Flash.state c.try_again.new.flash))
    → WillKeepPace g.F.Flash.PAGES g.F.Flash.SLOTS g.F.Flash.SECTORS g.F.Flash.sector_start
    (g.F.Flash.state c.args.flash.now).words extra c.args.place.now
    → StaysInArea g.F.Flash.SLOTS (g.F.Flash.state c.args.flash.now).words
    (g.F.Flash.state c.try_again.new.flash).words
    → c.write_once.new.kept ≡ false
    → PassesFewer g.F.Flash.SLOTS (log_value g.F.Flash.PAGES g.F.Flash.SLOTS g.F.Flash.SECTORS
    (g.F.Flash.state c.args.flash.now) c.args.place.now) (log_value g.F.Flash.PAGES g.F.Flash.SLOTS
    g.F.Flash.SECTORS (g.F.Flash.state c.try_again.new.flash) c.try_again.new.place)
untried_fewer g c = λ extra failed roomy stands stays untried n begins.
    let slots = g.F.Flash.SLOTS in
    let pages = g.F.Flash.PAGES in
    let sectors = g.F.Flash.SECTORS in
    let old = g.F.Flash.state c.args.flash.now in
    let mid = g.F.Flash.state c.write_once.new.flash in
    let new = g.F.Flash.state c.try_again.new.flash in
    let met = (first_failed g c).1 in
    let more = tries_faults 0 mid new c.try_again.result c.try_again.ensures.light in
    let less : IsRoomy pages slots sectors (extra + failed_since old mid) = omega (arith, roomy, more) in
    begins_later slots (log_value pages slots sectors new c.try_again.new.place) (n + (new.faults - mid.faults))
    (n + (new.faults - old.faults - 1)) (omega (arith, met, more))
    (c.try_again.ensures.passes failed (extra + failed_since old mid) n (omega (arith, less))
    (first_paces g c extra roomy stands)
    (c.in-Err-Fault.ensures.untried (ap Err c.in-Err-Fault.field-0-is) untried extra n less stands
    (sym (ap (base_in slots) c.try_again.ensures.turn) ∙ stays) begins))

-- The record was tried: each try met a Fault, or it passed over more slots than were left beside those of the steps.
kept_passes : (g : Over) (c : After-try_again g) (extra k : ℕ) → IsErrOf c.try_again.result Fault
    → IsRoomy g.F.Flash.PAGES g.F.Flash.SLOTS g.F.Flash.SECTORS
    (extra + failed_since (g.F.Flash.state c.args.flash.now) (g.F.Flash.state c.try_again.new.flash))
    → KeepsPace g.F.Flash.PAGES g.F.Flash.SLOTS g.F.Flash.SECTORS extra c.args.place.now
    → steps_left g.F.Flash.PAGES g.F.Flash.SECTORS c.args.place.now + c.args.place.now.next + k ≤ g.F.Flash.SLOTS
    → c.write_once.new.kept ≡ true
    → ((g.F.Flash.state c.args.flash.now).faults + TRIES ≤ (g.F.Flash.state c.try_again.new.flash).faults)
    ⊎ (c.args.place.now.next + k < passed_slots g.F.Flash.SLOTS (log_value g.F.Flash.PAGES g.F.Flash.SLOTS
    g.F.Flash.SECTORS (g.F.Flash.state c.try_again.new.flash) c.try_again.new.place))
kept_passes g c = λ extra k failed roomy pace room kept.
    let slots = g.F.Flash.SLOTS in
    let pages = g.F.Flash.PAGES in
    let sectors = g.F.Flash.SECTORS in
    let old = g.F.Flash.state c.args.flash.now in
    let mid = g.F.Flash.state c.write_once.new.flash in
    let new = g.F.Flash.state c.try_again.new.flash in
    let p = c.args.place.now in
    let q = c.write_once.new.place in
    let last = log_value pages slots sectors new c.try_again.new.place in
    let met = (first_failed g c).1 in
    let more = tries_faults 0 mid new c.try_again.result c.try_again.ensures.light in
    ⊎_elim
    (λ (many : mid.faults + TRIES ≤ new.faults + 1). inl (omega (arith, many, met)))
    (λ (full : (slots ≤ steps_left pages sectors q + passed_slots slots last)
    × (slots ≤ steps_left pages sectors q + q.tried + (new.faults - mid.faults))).
    let all = full.0 in
    let each = full.1 in
    ⊎_elim
    (λ (one : (steps_left pages sectors q + 1 ≡ steps_left pages sectors p) × (q.tried ≡ p.next + 1)).
    let fewer = one.0 in
    inr (omega (arith, all, fewer, room)))
    (λ (far : steps_left pages sectors q + q.tried + TRIES ≤ slots). inl (omega (arith, each, far, met, more)))
    (c.in-Err-Fault.ensures.beside (ap Err c.in-Err-Fault.field-0-is) kept extra (omega (arith, roomy, more)) pace))
    (c.try_again.ensures.passes_on failed kept)

pub returns-clause-keeps_on : goal.returns-clause-keeps_on
returns-clause-keeps_on g c = λ failed extra k few roomy pace room stays.
    let slots = g.F.Flash.SLOTS in
    let pages = g.F.Flash.PAGES in
    let sectors = g.F.Flash.SECTORS in
    let start = g.F.Flash.sector_start in
    let old = g.F.Flash.state c.args.flash.now in
    let mid = g.F.Flash.state c.write_once.new.flash in
    let new = g.F.Flash.state c.try_again.new.flash in
    let p = c.args.place.now in
    let q = c.write_once.new.place in
    let r = c.try_again.new.place in
    let first = log_value pages slots sectors old p in
    let last = log_value pages slots sectors new r in
    let run = (goal.at.returns-clause-keeps_on g c).After-try_again in
    let met = (first_failed g run).1 in
    let more = tries_faults 0 mid new c.try_again.result c.try_again.ensures.light in
    let less : IsRoomy pages slots sectors (extra + failed_since old mid) = omega (arith, roomy, more) in
    let will = first_paces g run extra roomy (inl pace) in
    let within = pace.room in
    let before = passed_of pages slots sectors old p pace.ready (omega (arith, within)) in
    record {
      meets = ⊎_elim
          (λ (some : 0 < k). ⊎_elim
          (λ (kept : c.write_once.new.kept ≡ true).
          let left : steps_left pages sectors q + q.tried + k ≤ slots = ⊎_elim
          (λ (one : (steps_left pages sectors q + 1 ≡ steps_left pages sectors p) × (q.tried ≡ p.next + 1)).
          let fewer = one.0 in
          let next = one.1 in
          omega (arith, fewer, next, room))
          (λ (far : steps_left pages sectors q + q.tried + TRIES ≤ slots). omega (arith, far, few))
          (c.in-Err-Fault.ensures.beside (ap Err c.in-Err-Fault.field-0-is) kept extra less pace) in
          let on = c.try_again.ensures.keeps_on failed kept (extra + failed_since old mid) (k - 1)
          (omega (arith, few, some)) (omega (arith, less)) will (omega (arith, left, some)) in
          let again = on.0 in
          ⊎_elim
          (λ (many : mid.faults + (k - 1) < new.faults). inl (omega (arith, met, many, some)))
          (λ (fewer : PassesFewer slots (log_value pages slots sectors mid q) last).
          inr (λ n begins. begins_later slots last (n + 1 + (new.faults - mid.faults - 1))
          (n + (new.faults - old.faults - 1)) (omega (arith, met, again))
          (fewer (n + 1) (first_begins g run extra n roomy (inl pace) stays begins))))
          on.1)
          (λ (untried : c.write_once.new.kept ≡ false).
          inr (untried_fewer g run extra failed roomy (inl pace) stays untried))
          (cases_Bool c.write_once.new.kept))
          (λ (none : k ≤ 0). inl (omega (arith, met, more, none)))
          (cases_lt 0 k);
      passes = ⊎_elim
          (λ (kept : c.write_once.new.kept ≡ true). ⊎_elim
          (λ (many : old.faults + TRIES ≤ new.faults). inl many)
          (λ (passed : p.next + k < passed_slots slots last). inr (inl (omega (arith, before, passed))))
          (kept_passes g run extra k failed roomy pace room kept))
          (λ (untried : c.write_once.new.kept ≡ false).
          let fewer = untried_fewer g run extra failed roomy (inl pace) stays untried in
          ⊎_elim
          (λ (many : mid.faults + TRIES ≤ new.faults + 1). inl (omega (arith, many, met)))
          (λ (found : (r.ready ≡ true) × ((slots ≤ steps_left pages sectors r + r.next)
          ⊎ HasOthersOlder pages slots sectors start new.words c.args.page r.next)).
          let after = passed_of pages slots sectors new r found.0
          (c.try_again.ensures.log.known found.0).free.within in
          inr (⊎_elim
          (λ (full : slots ≤ steps_left pages sectors r + r.next). ⊎_elim
          (λ (passed : p.next + k < r.next). inl (omega (arith, passed, before, after)))
          (λ (near : r.next ≤ p.next + k).
          let left = left_of pages slots sectors p pace.ready in
          let found_left = left_of pages slots sectors r found.0 in
          inr (record {
            found = found.0;
            left = inl (omega (arith, full, near, room, left, found_left));
            fewer = fewer;
          }))
          (cases_lt (p.next + k) r.next))
          (λ (others : HasOthersOlder pages slots sectors start new.words c.args.page r.next).
          inr (record {
            found = found.0;
            left = inr (subst (λ (n : ℕ). HasOthersOlder pages slots sectors start new.words c.args.page n)
                (sym after) others);
            fewer = fewer;
          }))
          found.1))
          (c.try_again.ensures.no_slot failed))
          (cases_Bool c.write_once.new.kept);
    }
