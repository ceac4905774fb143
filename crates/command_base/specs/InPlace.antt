-- Postconditions of calls that serve a request in place. No clause of the card's calls names this.
use Rattle.std.specs.Prelude.{◌≡◌, ℕ, List, Result, OnOk}
use Rattle.card_model.specs.declared.status.Sw.{Sw}
use Rattle.undo_journal.specs.declared.error.StoreErr.{StoreErr}
use Rattle.undo_journal.specs.Memory.{Memory}
use Rattle.card_model.specs.Requests.{Request}
use Rattle.command_base.specs.declared.current.Current.{Current}
use Rattle.command_base.specs.Served.{Executes}
use Rattle.command_base.specs.Working.{space_in}

-- A call that serves a request in place: if it succeeds, the free space is unchanged.
pub record ExecutesInPlace (request : Request) (old : Memory) (x : Current) (new : Memory) (y : Current) (text : List ℕ)
    (result : Result Sw StoreErr) : Type 0 where
  pub serves : Executes request old x new y text result
  pub space : OnOk result (space_in new ≡ space_in old)
