-- Words of inner contracts: adding a set to the waiting ones, and the words that a batch writes.
use Rattle.std.specs.Prelude.{◌≡◌, ◌⊎◌, ◌==◌, ◌+◌, ◌%◌, ◌&&◌, ℕ, suc, not, if◌then◌else◌, nat_lt, List, [], ◌∷◌}
use Rattle.std.specs.Prelude.{slice_index, slice_index_or, ◌<◌, length}
use Rattle.nvm_board.specs.declared.board.TheConstants.{PAGE_WORDS}
use Rattle.undo_journal.specs.declared.batch.Waiting.{Waiting}
use Rattle.undo_journal.specs.Undo.{Pair}

-- The number of leading sets with smaller addresses.
abbrev pub before : ℕ → List Waiting → ℕ
before a [] = 0
before a (s ∷ rest) = if nat_lt s.at a then suc (before a rest) else 0

-- the last set, if there is one, is of a smaller address
abbrev pub IsLastBelow : ℕ → List Waiting → Type 0
IsLastBelow a sets = (k : ℕ) → k + 1 ≡ length sets → (slice_index_or sets k (record { at = 0; word = 0 })).at < a

-- the words that go on with a run
abbrev pub run_words : ℕ → List Waiting → List ℕ
run_words next [] = []
run_words next (s ∷ rest) = if (s.at == next) && not (s.at % PAGE_WORDS == 0) then s.word
    ∷ run_words (s.at + 1) rest else []

-- The words of the first run.
abbrev pub first_words : List Waiting → List ℕ
first_words [] = []
first_words (s ∷ rest) = s.word ∷ run_words (s.at + 1) rest

-- The pairs of the sets: each address with its present word.
abbrev pub pairs_of : List ℕ → List Waiting → List Pair
pairs_of m [] = []
pairs_of m (s ∷ rest) = record { address = s.at; earlier = slice_index m s.at } ∷ pairs_of m rest

-- The same pairs as words of the journal.
abbrev pub pair_words : List ℕ → List Waiting → List ℕ
pair_words m [] = []
pair_words m (s ∷ rest) = s.at ∷ slice_index m s.at ∷ pair_words m rest

-- One of the pairs names the address.
abbrev pub Names : List Pair → ℕ → Type 0
Names [] a = ⊥
Names (p ∷ ps) a = (p.address ≡ a) ⊎ Names ps a

-- The pairs name each address of the sets.
abbrev pub AllNamed : List Pair → List Waiting → Type 0
AllNamed ps [] = Unit {0}
AllNamed ps (s ∷ rest) = Names ps s.at × AllNamed ps rest
