-- What stops a request that is served in place before anything is written.
use Rattle.std.proofs.Common.{◌≡◌, ℕ, List, [], Result}
use Rattle.std.specs.Result.{IsErrAnd}
use Rattle.card_model.specs.declared.status.Sw.{Sw}
use Rattle.undo_journal.specs.StoreCalls.{Reads}
use Rattle.undo_journal.specs.Memory.{Memory, committed}
use Rattle.undo_journal.specs.laws.Exits.{ok_anyway}
use Rattle.card_model.specs.Requests.{Request}
use Rattle.command_base.specs.declared.current.Current.{Current}
use Rattle.command_base.specs.declared.stop.Stop.{Stop}
use Rattle.command_base.specs.Counting.{CountsServed}
use Rattle.card_model.specs.Behaviours.{refused}
use Rattle.command_base.specs.InPlace.{ExecutesInPlace}
use Rattle.command_base.specs.Standing.{IsCard}
use Rattle.card_model.specs.Steps.{served}
use Rattle.command_base.specs.Stops.{failure_of, reply, IfRefused}
use Rattle.command_base.specs.Working.{card_in, session_in, table_in, IsCurrent}
use Rattle.command_base.specs.laws.Executes.{halted}
use Rattle.command_base.specs.laws.SpaceKept.{space-same}

-- a refusal is its answer, and as much space is free as before, since only reads were made
pub halted-in-place : (request : Request) (old : Memory) (x : Current) (new : Memory)
    → CountsServed (card_in old) (session_in old x) request old.facts new.facts
    → IsCard (committed old) → IsCurrent (table_in old) x → (text : List ℕ) → text ≡ []
    → (r : Result Sw Stop) (stop : Stop) → IsErrAnd r (λ f. f ≡ stop) → Reads old new (failure_of stop)
    → (P : Sw → Type 0) → ((status : Sw) → P status
    → served (card_in old) (session_in old x) request ≡ refused (card_in old) (session_in old x) status)
    → IfRefused stop P → ExecutesInPlace request old x new x text (reply r)
halted-in-place request old x new counted card current text empty r stop is reads P step said = record {
  serves = halted request old x new counted card current text empty r stop is reads P step said;
  space = ok_anyway _ _ (space-same old new reads.only.keeps.committed_words);
}
