-- The state after a call that serves a request, at any exit. No clause of the card's calls names this.
use Rattle.std.specs.Prelude.{◌≡◌, ◌⊎◌, ◌+◌, ◌≤◌, ℕ, false, List, length}
use Rattle.std.specs.Prelude.{Result, IfOk, OnOk}
use Rattle.std.specs.Result.{result_err}
use Rattle.card_model.specs.declared.status.Sw.{Sw}
use Rattle.undo_journal.specs.declared.error.StoreErr.{StoreErr}
use Rattle.undo_journal.specs.StoreCalls.{OnlyReads}
use Rattle.undo_journal.specs.Spending.{Advances}
use Rattle.undo_journal.specs.Undo.{gate}
use Rattle.undo_journal.specs.Memory.{Memory, committed, Reports}
use Rattle.card_model.specs.CommandTable.{asked}
use Rattle.card_model.specs.Requests.{Request}
use Rattle.file_tree.specs.Indexes.{KeepsPlaces}
use Rattle.command_base.specs.declared.current.Current.{Current}
use Rattle.command_base.specs.Comparing.{ComparesAsked, ComparesBy}
use Rattle.command_base.specs.Counting.{CountsAnswered, CountsServed}
use Rattle.card_model.specs.Behaviours.{outcome}
use Rattle.command_base.specs.CommandWrites.{most_writes, writes_of}
use Rattle.card_model.specs.Steps.{ChangesNothing, IsStage, carried_out, served, IsDoing, moves_files}
use Rattle.command_base.specs.Standing.{IsCard}
use Rattle.command_base.specs.CommitWords.{StandsAsked, StandsServed, TurnsAsked, TurnsServed}
use Rattle.command_base.specs.Working.{card_in, session_in, table_in, IsKept}

-- The memory, the session and the answer after a call. If it succeeds, they are the model's step of a card in use.
-- At any exit the card state is that before the call or that after one of its commits.
-- A call that changes nothing permanent makes only reads.
pub record Executes (request : Request) (old : Memory) (x : Current) (new : Memory) (y : Current) (text : List ℕ)
    (result : Result Sw StoreErr) : Type 0 where
  pub step : IfOk result (λ status. served (card_in old) (session_in old x) request
      ≡ outcome (card_in new) (session_in new y) text status)
  pub room : length text ≤ 256
  pub stage : OnlyReads old new ⊎ IsDoing (card_in old) (session_in old x) request (card_in new)
  pub kept : OnOk result (IsKept new y)
  pub card : IsCard (committed new)
  pub reports : Reports old new
  pub tells : new.failed ≡ result_err result
  pub writes : new.facts.writes ≤ old.facts.writes + most_writes request
  pub advances : Advances old.facts new.facts
  pub stands : gate old.facts.words ≡ 0 → StandsServed (card_in old) (session_in old x) request new.facts.words
  pub turned : TurnsServed (card_in old) (session_in old x) request old.facts new.facts
  pub compares : ComparesBy request (card_in old) old.facts (card_in new) new.facts
  pub places : OnOk result (moves_files request ≡ false → KeepsPlaces (table_in old) (table_in new))
  pub counted : OnOk result (CountsServed (card_in old) (session_in old x) request old.facts new.facts)

-- The same for the bytes of a command, and for a card that may be terminated.
pub record ExecutesBytes (command : List ℕ) (old : Memory) (x : Current) (new : Memory) (y : Current) (text : List ℕ)
    (result : Result Sw StoreErr) : Type 0 where
  pub step : IfOk result (λ status. carried_out (card_in old) (session_in old x) command
      ≡ outcome (card_in new) (session_in new y) text status)
  pub room : length text ≤ 256
  pub stage : IsStage (card_in old) (session_in old x) command (card_in new)
  pub idle : ChangesNothing (card_in old) (session_in old x) command → OnlyReads old new
  pub kept : OnOk result (IsKept new y)
  pub card : IsCard (committed new)
  pub reports : Reports old new
  pub tells : new.failed ≡ result_err result
  pub writes : new.facts.writes ≤ old.facts.writes + writes_of command
  pub advances : Advances old.facts new.facts
  pub stands : gate old.facts.words ≡ 0
      → StandsAsked (card_in old) (session_in old x) (asked command) new.facts.words
  pub turned : TurnsAsked (card_in old) (session_in old x) (asked command) old.facts new.facts
  pub compares : ComparesAsked (asked command) (card_in old) old.facts (card_in new) new.facts
  pub counted : OnOk result (CountsAnswered (asked command) (card_in old) (session_in old x) old.facts new.facts)
