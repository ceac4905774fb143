-- A journal without old words, and what its pairs name.
use Rattle.std.specs.Prelude.{◌≡◌, ◌⊎◌, ◌<◌, ◌≤◌, ◌*◌, ℕ, List, length, slice_index}
use Rattle.nvm_board.specs.declared.board.TheConstants.{PAGE_WORDS}
use Rattle.undo_journal.specs.declared.layout.TheConstants.{JOURNAL, JOURNAL_END, PAIRS}
use Rattle.undo_journal.specs.Undo.{pair_at}

-- The number of the journal's pages of pairs.
abbrev pub PAIR_PAGES : ℕ
PAIR_PAGES = 54

-- Each word of each pair is 0.
pub record IsWiped (m : List ℕ) : Type 0 where
  pub each : (k : ℕ) → JOURNAL ≤ k → k < JOURNAL_END → slice_index m k ≡ 0

-- All words are the same but those of the pairs.
pub record ChangesPairs (m after : List ℕ) : Type 0 where
  pub size : length after ≡ length m
  pub others : (k : ℕ) → (k < JOURNAL) ⊎ (JOURNAL_END ≤ k) → slice_index after k ≡ slice_index m k

-- The earlier word of each pair is 0, whether the pair counts or not.
pub record SavesNothing (m : List ℕ) : Type 0 where
  pub each : (i : ℕ) → i < PAIRS → (pair_at m i).earlier ≡ 0

-- Each pair names the same address as before, whether it counts or not.
pub record NamesSame (m after : List ℕ) : Type 0 where
  pub each : (i : ℕ) → i < PAIRS → (pair_at after i).address ≡ (pair_at m i).address

-- An address of the pages from `first` on, before page `end`.
pub record IsInPages (first end a : ℕ) : Type 0 where
  pub from : PAGE_WORDS * first ≤ a
  pub below : a < PAGE_WORDS * end

-- A pair, whether it counts or not, names a word of the pages from `first` on, before page `end`.
pub record NamesPages (first end : ℕ) (m : List ℕ) : Type 0 where
  pub pair : ℕ
  pub is_pair : pair < PAIRS
  pub inside : IsInPages first end (pair_at m pair).address
