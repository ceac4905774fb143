-- A step inside the writes of a chain's bytes. No public clause uses this definition.
use Rattle.std.specs.Prelude.{ℕ}
use Rattle.undo_journal.specs.StoreCalls.{OnlyReads}
use Rattle.undo_journal.specs.Memory.{Memory, Joins}

-- After some reads, a set of a word at an address joins the waiting sets, or fills a batch with them.
pub record JoinsAt (at : ℕ) (old new : Memory) : Type 0 where
  pub found : Memory
  pub reads : OnlyReads old found
  pub word : ℕ
  pub joins : Joins (record { at = at; word = word }) found new
