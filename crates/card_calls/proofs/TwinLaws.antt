-- The second board of a card with a device: it fits the card's board, whatever orders run.
use Rattle.std.specs.Prelude.{◌≡◌, Bool, true, false, if◌then◌else◌, List, [], ◌∷◌, Option, None, Some}
use Rattle.std.specs.Prelude.{length}
use Rattle.std.proofs.Common.{◌∙◌, ap, refl, subst, sym}
use Rattle.nvm_board.specs.Facts.{Facts}
use Rattle.nvm_board.specs.History.{Log, Run, and_runs, logged}
use Rattle.simulated_boards.specs.declared.kept_board.KeptBoard.{KeptBoard}
use Rattle.simulated_boards.specs.Handed.{log_of}
use Rattle.bench_lines.specs.Orders.{Order, Cut}
use Rattle.bench_lines.specs.Printouts.{Print}
use Rattle.bench_turns.specs.BenchStates.{bench_facts}
use Rattle.card_bench.specs.Charges.{twin_desk}
use Rattle.card_bench.specs.Exchanges.{Desk}
use Rattle.card_bench.specs.Performing.{Performs}
use Rattle.card_bench.specs.Prints.{desk_of}
use Rattle.card_bench.specs.declared.charge.TheConstants.{ALL_WORDS}
use Rattle.card_bench.proofs.ChargeLaws.{as_many_words, twin_facts}
use Rattle.card_bench.proofs.WrittenLines.{performs_wrote}
use Rattle.card_calls.specs.Devices.{HasTwin, HasTwinRoom, device_facts, logs_none, shown_log}
use Rattle.card_calls.specs.declared.device.TheConstants.{TWIN_WRITES}
use Rattle.card_calls.specs.declared.write_log.WriteLog.{WriteLog}

-- a second board has a log
log-there : (follows : Bool) (log : Option WriteLog)
    → HasTwinRoom (if follows then log_of shown_log log else None)
    → (own : WriteLog) × (log ≡ Some own) × (own.writes.capacity ≡ TWIN_WRITES)
log-there true None room = absurd room
log-there true (Some own) room = (own, refl, room)
log-there false log room = absurd room

pub twin_log : (second : KeptBoard WriteLog) → HasTwinRoom (device_facts second).log
    → (own : WriteLog) × (second.follower ≡ Some own) × (own.writes.capacity ≡ TWIN_WRITES)
twin_log second room = log-there second.follows second.follower room

-- its room stays
room-stays : (log : Option Log) (runs : List Run) → HasTwinRoom log → HasTwinRoom (and_runs log runs)
room-stays log [] room = room
room-stays None (run ∷ runs) room = absurd room
room-stays (Some log) (run ∷ runs) room = room-stays (Some (logged log run)) runs room

none-logged : (runs : List Run) → and_runs None runs ≡ None
none-logged [] = refl
none-logged (run ∷ runs) = none-logged runs

-- it fits a board of as many words
pub twin_same : (second : Option (KeptBoard WriteLog)) (f g : Facts) → length g.words ≡ length f.words → g.log ≡ f.log
    → HasTwin second f → HasTwin second g
twin_same None f g size log fits = log ∙ fits
twin_same (Some second) f g size log fits = (fits.0 ∙ sym size, fits.1)

-- after an order too
pub twin_stays : (second : Option (KeptBoard WriteLog)) (order : Order) (old new : Desk) (prints : Print)
    → Performs order old new prints → HasTwin second (bench_facts old.bench) → HasTwin second (bench_facts new.bench)
twin_stays None order old new prints run fits =
    let wrote = (performs_wrote order old new prints run).wrote in
    wrote.log ∙ ap (λ (l : Option Log). and_runs l wrote.runs) fits ∙ none-logged wrote.runs
twin_stays (Some second) order old new prints run fits =
    (fits.0 ∙ sym (as_many_words order old new prints run), fits.1)

-- at a desk without what was to come
pub twin_cleared : (second : Option (KeptBoard WriteLog)) (old new : Desk)
    → new ≡ desk_of (record (bench_facts old.bench) { due = 0; pending = None })
    → HasTwin second (bench_facts old.bench) → HasTwin second (bench_facts new.bench)
twin_cleared second old new is fits =
    twin_same second _ _ (ap (λ (d : Desk). length (bench_facts d.bench).words) is)
    (ap (λ (d : Desk). (bench_facts d.bench).log) is) fits

-- of a new board
pub twin_begins : (second board : KeptBoard WriteLog) (f : Facts)
    → device_facts second ≡ record (device_facts board) { log = logs_none TWIN_WRITES }
    → f ≡ record (device_facts board) { dark = true } → HasTwin (Some second) f
twin_begins second board f is same = (
  ap (λ (g : Facts). length g.words) is ∙ sym (ap (λ (g : Facts). length g.words) same),
  subst HasTwinRoom (sym (ap (λ (g : Facts). g.log) is)) refl,
)

-- and after the second card ran
pub twin_left : (order : Order) (was armed left : Desk) (quiet prints : Print) (second : KeptBoard WriteLog)
    → Performs (Cut 1 ALL_WORDS) (twin_desk was (logs_none TWIN_WRITES)) armed quiet
    → Performs order armed left prints → device_facts second ≡ record (bench_facts left.bench) { dark = true }
    → HasTwin (Some second) (bench_facts was.bench)
twin_left order was armed left quiet prints second cut run is =
    let twin = twin_desk was (logs_none TWIN_WRITES) in
    let first = (performs_wrote (Cut 1 ALL_WORDS) twin armed quiet cut).wrote in
    let rest = (performs_wrote order armed left prints run).wrote in
    let log : (bench_facts left.bench).log ≡ and_runs (and_runs (logs_none TWIN_WRITES) first.runs) rest.runs =
    rest.log ∙ ap (λ (l : Option Log). and_runs l rest.runs) (first.log
    ∙ ap (λ (f : Facts). and_runs f.log first.runs) (twin_facts was (logs_none TWIN_WRITES))) in (
      ap (λ (f : Facts). length f.words) is ∙ as_many_words order armed left prints run
          ∙ as_many_words (Cut 1 ALL_WORDS) twin armed quiet cut
          ∙ ap (λ (f : Facts). length f.words) (twin_facts was (logs_none TWIN_WRITES)),
      subst HasTwinRoom (sym (ap (λ (f : Facts). f.log) is ∙ log))
          (room-stays _ rest.runs (room-stays (logs_none TWIN_WRITES) first.runs refl)),
    )
