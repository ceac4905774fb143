-- Bounded repair (ISO/IEC 7816-3, clause 11.6): a command with at most one line fault gets its answer.
use Rattle.std.specs.Prelude.{◌≡◌, ◌+◌, ◌*◌, ◌/◌, ◌≤◌, ◌<◌, ℕ, true, false, if◌then◌else◌, List, [], ◌∷◌, length}
use Rattle.t1_link.specs.ReaderTable.{is_busy}
use Rattle.t1_link.specs.Worlds.{Arrival, Done, Event, Failed, Machine, Report, Unknown, World, arrival, at_card}
use Rattle.t1_link.specs.Worlds.{at_reader, garble, in_vain, lose, may_send}
use Rattle.t1_link.specs.Worlds.{nothing, pass, powered, send, world_step}
use Rattle.t1_link.specs.WorldLaw.{comes_of}

-- The blocks since a command was last sent: how many arrived intact, and how many were lost or garbled.
pub record Counts : Type 0 where
  pub passes : ℕ
  pub faults : ℕ

abbrev pub passed : Counts → Counts
passed c = record c { passes = c.passes + 1 }

abbrev pub faulted : Counts → Counts
faulted c = record c { faults = c.faults + 1 }

-- the counts after an event that is possible
abbrev pub counted_by : Counts → Event → Counts
counted_by c (send command) = c
counted_by c pass = passed c
counted_by c lose = faulted c
counted_by c (garble bytes) = faulted c

-- an event that is impossible counts for nothing
abbrev pub counted : Counts → Event → Arrival → Counts
counted c event nothing = c
counted c event (at_card bytes) = counted_by c event
counted c event (at_reader bytes) = counted_by c event
counted c event in_vain = counted_by c event

-- all counts are zero
abbrev pub no_counts : Counts
no_counts = record { passes = 0; faults = 0 }

-- a world with its counts
pub record Watched (M : Type 0) : Type 0 where
  pub world : World M
  pub counts : Counts

-- the counts after an event; a sent command resets them
abbrev pub counts_after : {M : Type 0} → Watched M → Event → Counts
counts_after v (send command) = if may_send v.world.reader command then no_counts else v.counts
counts_after v pass = counted v.counts pass (arrival v.world.line pass)
counts_after v lose = counted v.counts lose (arrival v.world.line lose)
counts_after v (garble bytes) = counted v.counts (garble bytes) (arrival v.world.line (garble bytes))

-- the world and counts after a list of events, in order
unfoldable pub watch : {M : Type 0} → Machine M → Watched M → List Event → Watched M
watch machine v [] = v
watch machine v (event ∷ events) =
    watch machine (record { world = world_step machine v.world event; counts = counts_after v event }) events

-- the world after these events, with its counts
abbrev pub watched : {M : Type 0} → Machine M → M → List Event → Watched M
watched machine start events = watch machine (record { world = powered start; counts = no_counts }) events

-- the number of I-blocks of a command and of an answer: 254 bytes toward the card, 32 toward the reader
abbrev pub command_blocks : List ℕ → ℕ
command_blocks bytes = (length bytes + 253) / 254

abbrev pub answer_blocks : List ℕ → ℕ
answer_blocks bytes = (length bytes + 31) / 32

-- the last sent command
abbrev pub newest : List (List ℕ) → List ℕ
newest [] = []
newest (command ∷ sent) = command

-- no report is Failed
abbrev pub NoneFailed : List Report → Type 0
NoneFailed [] = Unit {0}
NoneFailed (Done answer ∷ reports) = NoneFailed reports
NoneFailed (Unknown ∷ reports) = NoneFailed reports
NoneFailed (Failed failure ∷ reports) = ⊥

-- If at most one block was lost or garbled, and no earlier report was Failed, the report is Done. Without any fault it
-- takes twice the I-blocks of command and answer, less two, as each I-block but the last of either has an R-block.
abbrev pub Repaired : Counts → List (List ℕ) → List Report → Type 0
Repaired c sent [] = Unit {0}
Repaired c sent (report ∷ earlier) = c.faults ≤ 1 → NoneFailed earlier
    → (answer : List ℕ) × (report ≡ Done answer)
    × (c.faults ≡ 0 → c.passes + 2 ≡ 2 * (command_blocks (newest sent) + answer_blocks answer))

-- What the counts prove about a world.
pub record BoundedRepair {M : Type 0} (machine : Machine M) (start : M) (events : List Event)
    (v : Watched M) : Type 0 where
  -- it is the world after these events
  pub same_world : v.world ≡ comes_of machine start events
  -- if no command is in progress
  pub repaired : is_busy v.world.reader.phase ≡ false → Repaired v.counts v.world.sent v.world.reports
  -- if one is in progress: the report comes within 20 intact blocks
  pub in_time : is_busy v.world.reader.phase ≡ true → v.counts.faults ≡ 0 → v.counts.passes < 20

-- Bounded repair, for every list of events, from a state that satisfies the invariant.
abbrev pub RepairLaw : {M : Type 0} → Machine M → (M → Type 0) → Type 0
RepairLaw {M} machine Invariant = (start : M) (events : List Event) → Invariant start
    → BoundedRepair machine start events (watched machine start events)
