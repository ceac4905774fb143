-- The first device write of an order that can compare a PIN. A second card tells it before the order runs.
use Rattle.std.specs.Prelude.{◌≡◌, ◌⊎◌, ◌+◌, ◌%◌, ◌^◌, ◌∷◌, ℕ, List, [], Option, None, Some, is_some}
use Rattle.std.specs.Prelude.{option_map}
use Rattle.std.specs.Prelude.{Bool, true, false}
use Rattle.nvm_board.specs.History.{Log, Run, and_runs, written}
use Rattle.bench_lines.specs.Orders.{Apdu, Block, Order}
use Rattle.bench_turns.specs.BenchStates.{bench_facts}
use Rattle.card_bench.specs.Charges.{CutsNext, MayCompare, RunsToFirst}
use Rattle.card_bench.specs.Exchanges.{Desk}
use Rattle.card_calls.specs.Devices.{TellsNext, logs_none, run_of}
use Rattle.card_calls.specs.SessionStates.{Announcement, SessionState, session_facts}
use Rattle.card_calls.specs.declared.announced.Announced.{Announced}
use Rattle.card_calls.specs.declared.device.TheConstants.{TWIN_WRITES}
use Rattle.card_calls.specs.declared.write.Write.{Write}
use Rattle.card_calls.specs.declared.write_log.NextWrite.{NextWrite}
use Rattle.card_calls.specs.declared.write_log.NextWrite.TheVariants as next

-- An order has no charge: it can't compare, the card has no device, the device is behind, or power is lost in its
-- first write.
abbrev pub HasNoCharge : Order → SessionState → Type 0
HasNoCharge order was = (¬ MayCompare order) ⊎ (is_some (session_facts was).log ≡ false) ⊎ (was.behind ≡ true)
    ⊎ CutsNext (session_facts was).pending

-- the words with the first write of an order, if it makes one
abbrev pub with_first : List ℕ → Option Run → List ℕ
with_first words None = words
with_first words (Some run) = written words run.at run.words

-- the device writes of a card that made this one, or none
abbrev pub runs_of : Option Run → List Run
runs_of None = []
runs_of (Some run) = run ∷ []

-- A second card, whose board has an empty log, runs the order and loses power in its first write. Its memory is then
-- the card's with this write in it, or the card's without any, and its log has exactly this write, or none.
abbrev pub IsFirstOf : Option Run → Order → Desk → Type 0
IsFirstOf first order d =
    (runs : RunsToFirst order d (logs_none TWIN_WRITES) (with_first (bench_facts d.bench).words first))
    × ((bench_facts runs.left.bench).log ≡ and_runs (logs_none TWIN_WRITES) (runs_of first))

-- what was announced is the first write of its order at this desk
abbrev pub IsTold : Option Announcement → Desk → Type 0
IsTold None d = Unit {0}
IsTold (Some told) d = IsFirstOf told.first told.order d

-- the first write that a second card told, if the order makes one
abbrev pub RunsAhead : Order → SessionState → Option Write → Type 0
RunsAhead order was first = IsFirstOf (option_map run_of first) order was.desk

-- The first write of an order is handed out, and announced. Nothing else changes.
pub record Announces (first : Option Run) (order : Order) (was now : SessionState) : Type 0 where
  pub told : IsFirstOf first order was.desk
  pub now_is : now ≡ record was { announced = Some (record { order = order; first = first }) }

-- The first write of an order, if it has a charge. Else nothing changes.
abbrev pub TellsFirst : Order → SessionState → SessionState → Option Write → Type 0
TellsFirst order was now None = (HasNoCharge order was × (now ≡ was)) ⊎ Announces None order was now
TellsFirst order was now (Some w) = Announces (Some (run_of w)) order was now

-- the order of a block or a command
abbrev pub sent_order : Bool → List ℕ → Order
sent_order true given = Block given
sent_order false given = Apdu given

-- the order and its first write
abbrev pub announcement : Announced → Announcement
announcement a = record { order = sent_order a.is_block a.given.items; first = option_map run_of a.first }

-- the announcement of an order with a charge
abbrev pub charge_of : Bool → Option Announcement → Option Announcement
charge_of true announced = announced
charge_of false announced = None

-- The next write that the device lacks is the one that was announced; or none was, and there is none.
abbrev pub IsAsAnnounced : Option Run → NextWrite → Type 0
IsAsAnnounced None next.Nothing = Unit {0}
IsAsAnnounced None (next.Write w) = ⊥
IsAsAnnounced None next.Lost = ⊥
IsAsAnnounced (Some run) next.Nothing = ⊥
IsAsAnnounced (Some run) (next.Write w) = run_of w ≡ run
IsAsAnnounced (Some run) next.Lost = ⊥

-- The device has as many writes more as were announced.
abbrev pub and_first : ℕ → Option Run → ℕ
and_first stored None = stored
and_first stored (Some run) = (stored + 1) % 2 ^ 64

-- The end of an order whose first write may have been announced: the writes that the device has then, or none, if the
-- order began with another write.
abbrev pub EndsCharge : Option Log → ℕ → Option Announcement → Option ℕ → Type 0
EndsCharge log stored None after = after ≡ Some stored
EndsCharge log stored (Some told) None = (answer : NextWrite) × TellsNext log stored answer
    × ¬ IsAsAnnounced told.first answer
EndsCharge log stored (Some told) (Some after) = (answer : NextWrite) × TellsNext log stored answer
    × IsAsAnnounced told.first answer × (after ≡ and_first stored told.first)
