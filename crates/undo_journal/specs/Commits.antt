-- Which device write commits: the last one, which turns the gate to 0 in a transaction.
use Rattle.std.specs.Prelude.{◌≡◌, ◌⊎◌, ◌+◌, ◌≤◌, ◌<◌, ℕ, List, slice_set, None, length, take}
use Rattle.nvm_board.specs.Aims.{WritesRuns}
use Rattle.nvm_board.specs.Facts.{Facts}
use Rattle.nvm_board.specs.History.{replayed}
use Rattle.undo_journal.specs.declared.layout.TheConstants.{GATE}
use Rattle.undo_journal.specs.Memory.{Memory, committed, current}
use Rattle.undo_journal.specs.Undo.{gate, undo, data_words, IsSound}

-- Undo gives the same data words of both memories, and it stays defined.
pub record StaysCommitted (old new : List ℕ) : Type 0 where
  pub sound : IsSound old → IsSound new
  pub words : data_words (undo new) ≡ data_words (undo old)

-- Only the last device write of the calls may change the committed words. With any number of their writes, but not with
-- all, the committed words are those before the calls.
pub record CommitsLast (old new : Facts) : Type 0 where
  pub wrote : WritesRuns old new
  pub before : (k : ℕ) → k < length wrote.runs → StaysCommitted old.words (replayed old.words (take k wrote.runs))

-- The gate is 0, and its write alone is the commit. With `pairs` in its place, undo would be defined and would give
-- the words before. One memory can't say that the gate had that value just before.
pub record TurnsGate (before : List ℕ) (new : Memory) : Type 0 where
  pub shut : gate new.facts.words ≡ 0
  pub pairs : ℕ
  pub sound : IsSound (slice_set new.facts.words GATE pairs)
  pub former : data_words (undo (slice_set new.facts.words GATE pairs)) ≡ before

-- The effect of at most one transaction: the committed words are unchanged, or the gate alone committed new ones.
abbrev pub CommitsByGate : Memory → Memory → Type 0
CommitsByGate old new = (committed new ≡ committed old) ⊎ TurnsGate (committed old) new

-- Once the gate has turned to 0 the current words are the committed ones. Where it is 0 and they are not, it had not
-- risen: no set had used a pair, and at most the pairs, and a gate that didn't rise, were written. All this of a store
-- that hasn't failed.
abbrev pub TurnedCommits : Memory → Memory → Type 0
TurnedCommits entry exit = gate exit.facts.words ≡ 0 → entry.failed ≡ None → (committed exit ≡ current entry)
    ⊎ ((entry.used ≡ 0) × (gate entry.facts.words ≡ 0) × (exit.facts.writes ≤ entry.facts.writes + 2))

-- The gate rises early in a transaction. Where it is 0 after calls in it, it was 0 before them, and they wrote nothing.
-- If the store has failed, they wrote at most the pairs, and a gate that didn't rise.
abbrev pub RisesEarly : Memory → Memory → Type 0
RisesEarly old new = gate new.facts.words ≡ 0 → (gate old.facts.words ≡ 0)
    × (new.facts.writes ≤ old.facts.writes + 2) × (new.failed ≡ None → new.facts.writes ≤ old.facts.writes)

-- The effect of at most one transaction, by its gate. With the gate 0 after more than two device writes, it has turned,
-- and the committed words are the new ones, for which `becomes` is true.
abbrev pub TurnsTo : (List ℕ → Type 0) → Memory → Memory → Type 0
TurnsTo becomes old new =
    gate new.facts.words ≡ 0 → old.facts.writes + 2 < new.facts.writes → becomes (committed new)

-- The same, with at most `early` device writes before the transaction.
abbrev pub TurnsAfter : ℕ → (List ℕ → Type 0) → Memory → Memory → Type 0
TurnsAfter early becomes old new =
    gate new.facts.words ≡ 0 → old.facts.writes + early + 2 < new.facts.writes → becomes (committed new)

-- where no pair counts none does afterwards
abbrev pub StaysShut : Memory → Memory → Type 0
StaysShut old new = gate old.facts.words ≡ 0 → gate new.facts.words ≡ 0
