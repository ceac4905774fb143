-- Words of inner contracts: a page of pairs of which the earlier words are cleared.
use Rattle.std.specs.Prelude.{◌≡◌, ◌⊎◌, ◌<◌, ◌≤◌, ◌+◌, ◌*◌, ℕ, List, length, slice_index}
use Rattle.nvm_board.specs.declared.board.TheConstants.{PAGE_WORDS}
use Rattle.nvm_board.specs.Facts.{address}
use Rattle.undo_journal.specs.declared.layout.TheConstants.{JOURNAL_PAGE, JOURNAL_END_PAGE}
use Rattle.undo_journal.specs.declared.wiping.TheConstants.{PAGE_PAIRS}

-- A page of pairs.
abbrev pub IsPairPage : ℕ → Type 0
IsPairPage page = (JOURNAL_PAGE ≤ page) × (page < JOURNAL_END_PAGE)

-- The earlier words of a page of pairs are 0.
pub record IsClearPage (page : ℕ) (m : List ℕ) : Type 0 where
  pub each : (k : ℕ) → k < PAGE_PAIRS → slice_index m (address page (2 * k + 1)) ≡ 0

-- The words of a page of pairs, but with 0 for the earlier words.
pub record AreClearedWords (page : ℕ) (m run : List ℕ) : Type 0 where
  pub names : (k : ℕ) → k < PAGE_PAIRS → slice_index run (2 * k) ≡ slice_index m (address page (2 * k))
  pub cleared : (k : ℕ) → k < PAGE_PAIRS → slice_index run (2 * k + 1) ≡ 0

-- Only earlier words of a page of pairs change.
pub record ChangesEarlier (page : ℕ) (m after : List ℕ) : Type 0 where
  pub size : length after ≡ length m
  pub names : (k : ℕ) → k < PAGE_PAIRS
      → slice_index after (address page (2 * k)) ≡ slice_index m (address page (2 * k))
  pub others : (k : ℕ) → (k < address page 0) ⊎ (address page PAGE_WORDS ≤ k)
      → slice_index after k ≡ slice_index m k
