-- The law of the world (ISO/IEC 7816-3, clause 11.6): it holds after every list of events, with any lost or garbled
-- blocks.
use Rattle.std.specs.Prelude.{◌⊎◌, ◌≡◌, ◌≢◌, ◌≤◌, ◌<◌, ℕ, Bool, true, false, suc, if◌then◌else◌, List, [], ◌∷◌, Ok}
use Rattle.t1_link.specs.declared.reader_end.Failure.TheVariants.{LinkLost}
use Rattle.t1_link.specs.Blocks.{Block, information, receive_ready, resynch_request, resynch_response, ifs_request}
use Rattle.t1_link.specs.Blocks.{ifs_response, heard}
use Rattle.t1_link.specs.ReaderTable.{is_busy}
use Rattle.t1_link.specs.Worlds.{Arrival, Carried, Done, Event, Failed, Line, Machine, Report, Unknown, World}
use Rattle.t1_link.specs.Worlds.{arrival, at_reader}
use Rattle.t1_link.specs.Worlds.{carrying, in_vain, is_command, powered, quiet, toward_card, toward_reader}
use Rattle.t1_link.specs.Worlds.{world, world_step}

-- the report doesn't say whether the command ran
abbrev pub IsOpenEnded : Report → Type 0
IsOpenEnded report = (report ≡ Unknown) ⊎ (report ≡ Failed LinkLost)

-- The commands that ran are those sent, in order, each at most once (all lists newest first). Each command sent either
-- ran and is reported Done with the machine's answer at that point, or open-ended; or it didn't run and is open-ended.
abbrev pub Kept : {M : Type 0} → Machine M → M → List (List ℕ) → List Carried → List Report → M → Type 0
Kept {M} machine start (command ∷ sent) carried (report ∷ reports) m =
    ((was : M) × (before : List Carried) × (carried ≡ carrying machine was command ∷ before)
    × (m ≡ machine.next was command)
    × (is_command command ≡ true) × ((report ≡ Done (machine.answer was command)) ⊎ IsOpenEnded report)
    × Kept machine start sent before reports was)
    ⊎ (IsOpenEnded report × Kept machine start sent carried reports m)
Kept {M} machine start [] carried [] m = (carried ≡ []) × (m ≡ start)
Kept {M} machine start [] carried (report ∷ reports) m = ⊥
Kept {M} machine start (command ∷ sent) carried [] m = ⊥

-- The reports so far; a command in progress counts as Unknown, as nobody knows yet whether it ran.
abbrev pub so_far : {M : Type 0} → World M → List Report
so_far w = if is_busy w.reader.phase then Unknown ∷ w.reports else w.reports

-- true if a block is under way
abbrev pub is_under_way : Line → Bool
is_under_way quiet = false
is_under_way (toward_card b) = true
is_under_way (toward_reader b) = true

-- the number of requests for RESYNCH among these blocks
abbrev pub requests : List Block → ℕ
requests [] = 0
requests (resynch_request ∷ blocks) = suc (requests blocks)
requests (information number more field ∷ blocks) = requests blocks
requests (receive_ready number error ∷ blocks) = requests blocks
requests (resynch_response ∷ blocks) = requests blocks
requests (ifs_request size ∷ blocks) = requests blocks
requests (ifs_response size ∷ blocks) = requests blocks

-- After a request for RESYNCH only such requests follow (newest first).
abbrev pub OnlyRequestsFollow : List Block → Type 0
OnlyRequestsFollow [] = Unit {0}
OnlyRequestsFollow (b ∷ before) = (0 < requests before → b ≡ resynch_request) × OnlyRequestsFollow before

-- The blocks that the reader's end sent for the last command, by its report. For Done there is no request for RESYNCH,
-- for Unknown at least one. For Failed there are three, or no block at all over a link that was given up before.
abbrev pub Fits : List Report → List Block → Type 0
Fits [] offered = Unit {0}
Fits (Done answer ∷ reports) offered = requests offered ≡ 0
Fits (Unknown ∷ reports) offered = 1 ≤ requests offered
Fits (Failed failure ∷ reports) offered = (requests offered ≡ 3) ⊎ (offered ≡ [])

-- The law of a world: the commands sent, run and reported; the block under way; and the blocks sent for a command.
pub record Lawful {M : Type 0} (machine : Machine M) (start : M) (w : World M) : Type 0 where
  -- the commands that ran are those sent, in order, each at most once
  pub kept : Kept machine start w.sent w.carried (so_far w) w.machine
  -- the reader's end waits for a block if and only if one is under way; a command is in progress exactly then
  pub under_way : is_under_way w.line ≡ is_busy w.reader.phase
  -- after a request for RESYNCH the command is never sent again
  pub only_requests : OnlyRequestsFollow w.offered
  pub three_requests : requests w.offered ≤ 3
  -- if no command is in progress
  pub fits : is_busy w.reader.phase ≡ false → Fits w.reports w.offered

-- the response to a request for RESYNCH didn't arrive
abbrev pub IsUnanswered : Arrival → Type 0
IsUnanswered came = (came ≡ in_vain)
    ⊎ ((bytes : List ℕ) × (came ≡ at_reader bytes) × (heard bytes ≢ Ok resynch_response))

-- The end of a command after a request for RESYNCH. The response ends it as Unknown. Anything else, or a timeout, leads
-- to another request; after the third request the command has Failed.
pub record Resynchs {M : Type 0} (w : World M) (came : Arrival) (after : World M) : Type 0 where
  pub answered : (bytes : List ℕ) → came ≡ at_reader bytes → heard bytes ≡ Ok resynch_response
      → (after.reports ≡ Unknown ∷ w.reports) × (after.offered ≡ w.offered)
  pub again : IsUnanswered came → requests w.offered < 3
      → (after.reports ≡ w.reports) × (after.line ≡ toward_card resynch_request)
      × (after.offered ≡ resynch_request ∷ w.offered)
  pub lost : IsUnanswered came → requests w.offered ≡ 3
      → (after.reports ≡ Failed LinkLost ∷ w.reports) × (after.offered ≡ w.offered)

-- the world after these events
abbrev pub comes_of : {M : Type 0} → Machine M → M → List Event → World M
comes_of machine start events = world machine (powered start) events

-- The law, for every list of events, from a state that satisfies the invariant.
abbrev pub WorldLaw : {M : Type 0} → Machine M → (M → Type 0) → Type 0
WorldLaw {M} machine Invariant = (start : M) (events : List Event) → Invariant start
    → Lawful machine start (comes_of machine start events)

-- The end after a request for RESYNCH, for every list of events and one more event.
abbrev pub ResynchLaw : {M : Type 0} → Machine M → (M → Type 0) → Type 0
ResynchLaw {M} machine Invariant = (start : M) (events : List Event) (event : Event) → Invariant start
    → is_busy (comes_of machine start events).reader.phase ≡ true → 1 ≤ requests (comes_of machine start events).offered
    → Resynchs (comes_of machine start events) (arrival (comes_of machine start events).line event)
    (world_step machine (comes_of machine start events) event)
