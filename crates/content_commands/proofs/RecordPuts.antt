-- A record put into a record file: by what its kind says, and within the device writes of any put.
use Rattle.std.proofs.Common.{◌≤◌, ℕ, List, Result, arith}
use Rattle.undo_journal.specs.declared.error.StoreErr.{StoreErr}
use Rattle.undo_journal.specs.Memory.{Memory}
use Rattle.ef_contents.specs.BodyCalls.{Commits}

-- a call of few device writes is one of at most more
pub commits-within : {T : Type 0} (becomes : List ℕ → Type 0) (few most : ℕ) (old new : Memory)
    (result : Result T StoreErr) → few ≤ most → Commits becomes few old new result → Commits becomes most old new result
commits-within becomes few most old new result le commits =
    let writes = commits.store.writes in record {
      any_exit = commits.any_exit;
      done = commits.done;
      by_gate = commits.by_gate;
      turned = commits.turned;
      store = record {
        reports = commits.store.reports;
        idle = commits.store.idle;
        ready = commits.store.ready;
        tells = commits.store.tells;
        writes = record {
          writes = (let most_now = writes.writes in omega (arith, most_now, le));
          more = writes.more;
          cut = writes.cut;
          compares = writes.compares;
          matches = writes.matches;
        };
      };
    }
