-- The waiting sets of a transaction: their effect on the words, and their number of device writes.
use Rattle.std.specs.Prelude.{◌==◌, ◌<◌, ◌≤◌, ◌+◌, ◌-◌, ◌/◌, ◌%◌, ◌^◌, ◌&&◌, ℕ, not, if◌then◌else◌, List, []}
use Rattle.std.specs.Prelude.{◌∷◌, slice_set, zero, suc, nat_lt, Option, Some, None}
use Rattle.nvm_board.specs.declared.board.TheConstants.{PAGE_WORDS}
use Rattle.undo_journal.specs.declared.batch.Waiting.{Waiting}
use Rattle.undo_journal.specs.Undo.{IsOutside}

-- The words with the waiting sets written over them.
abbrev pub overlay : List Waiting → List ℕ → List ℕ
overlay [] m = m
overlay (s ∷ rest) m = overlay rest (slice_set m s.at s.word)

-- The waiting word for an address, if there is one.
abbrev pub look_up : ℕ → List Waiting → Option ℕ
look_up a [] = None
look_up a (s ∷ rest) = if s.at == a then Some s.word else look_up a rest

-- The sets with one more. It replaces one of the same address.
abbrev pub with_set : Waiting → List Waiting → List Waiting
with_set new [] = new ∷ []
with_set new (s ∷ rest) = if nat_lt s.at new.at then s
    ∷ with_set new rest else (if s.at == new.at then new ∷ rest else new ∷ s ∷ rest)

-- The sets with one more for each of the words from an address on.
abbrev pub joined_run : ℕ → List ℕ → List Waiting → List Waiting
joined_run at [] sets = sets
joined_run at (w ∷ words) sets = joined_run (at + 1) words (with_set (record { at = at; word = w }) sets)

-- A set of a data word in a memory of `size` words, at address `least` or above.
pub record IsSet (size least : ℕ) (s : Waiting) : Type 0 where
  pub from : least ≤ s.at
  pub outside : IsOutside s.at
  pub within : s.at < size
  pub fits : s.word < 2 ^ 32

-- Sets of data words in a memory of `size` words, by ascending address from `least` on.
abbrev pub AreSets : ℕ → ℕ → List Waiting → Type 0
AreSets size least [] = Unit {0}
AreSets size least (s ∷ rest) = IsSet size least s × AreSets size (s.at + 1) rest

-- 0 if address `a` continues a run that would go on at `next`, else 1. A run has successive addresses in one page.
abbrev pub begins : ℕ → ℕ → ℕ
begins next a = if (a == next) && not (a % PAGE_WORDS == 0) then 0 else 1

-- The number of runs that the sets make after a run that would go on at `next`.
abbrev pub runs_from : ℕ → List Waiting → ℕ
runs_from next [] = 0
runs_from next (s ∷ rest) = begins next s.at + runs_from (s.at + 1) rest

-- The number of pages that contain a run of words from an address on.
abbrev pub touched_pages : ℕ → ℕ → ℕ
touched_pages at zero = 0
touched_pages at (suc n) = (at + n) / PAGE_WORDS + 1 - at / PAGE_WORDS

-- The device writes of a batch: its pairs, the gate, and one per run; none if no set waits.
abbrev pub batch_writes : List Waiting → ℕ
batch_writes [] = 0
batch_writes (s ∷ rest) = 2 + runs_from 0 (s ∷ rest)
