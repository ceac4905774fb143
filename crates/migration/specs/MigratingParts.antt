-- Steps inside the migration. No public clause uses these definitions.
use Rattle.std.specs.Prelude.{◌≡◌, ◌≢◌, ◌==◌, ◌⊎◌, ◌<◌, ◌≤◌, ◌+◌, [], ℕ, List, length, slice_set, if◌then◌else◌}
use Rattle.nvm_board.specs.Facts.{address}
use Rattle.nvm_board.specs.declared.board.TheConstants.{PAGE_WORDS}
use Rattle.undo_journal.specs.Memory.{Memory, Joins}
use Rattle.block_chain.specs.BlockWords.{word}
use Rattle.block_chain.specs.declared.layout.TheConstants.{FREE_HEAD, FREE_HEAD_WORD, HEADER_PAGE}
use Rattle.file_tree.specs.declared.layout.TheConstants.{MARK, MARK_WORD, OLD_END_PAGE, PAGES_WORD}
use Rattle.file_tree.specs.MigrationParts.{Renames}
use Rattle.pin_store.specs.declared.layout.TheConstants.{FIRST_PIN_PAGE, PIN_MARK_WORD}
use Rattle.pin_store.specs.Pages.{KeepsSecrets}

-- The first i PINs are marked. Only marks of PINs may change.
pub record MarksPins (i : ℕ) (m after : List ℕ) : Type 0 where
  pub size : length after ≡ length m
  pub marked : (pin : ℕ) → pin < i → word after (FIRST_PIN_PAGE + pin) PIN_MARK_WORD ≡ 1
  pub others : (page place : ℕ) → place < PAGE_WORDS
      → (place ≢ PIN_MARK_WORD) ⊎ (page < FIRST_PIN_PAGE) ⊎ (FIRST_PIN_PAGE + 8 ≤ page)
      → word after page place ≡ word m page place

-- Page 1,024 is the first free block, if there are blocks from there on. No other word changes.
abbrev pub SetsFirst : ℕ → List ℕ → List ℕ → Type 0
SetsFirst end m mid = ((end ≢ OLD_END_PAGE) × (mid ≡ slice_set m (address HEADER_PAGE FREE_HEAD_WORD) OLD_END_PAGE))
    ⊎ ((end ≡ OLD_END_PAGE) × (mid ≡ m))

-- The header has the mark of format 2, the page where the blocks end and the first free block. No other word changes.
pub record RenamesHeader (end : ℕ) (m after : List ℕ) : Type 0 where
  pub size : length after ≡ length m
  pub mark : word after HEADER_PAGE MARK_WORD ≡ MARK
  pub pages : word after HEADER_PAGE PAGES_WORD ≡ end
  pub head : word after HEADER_PAGE FREE_HEAD_WORD
      ≡ (if end == OLD_END_PAGE then word m HEADER_PAGE FREE_HEAD_WORD else OLD_END_PAGE)
  pub others : (page place : ℕ) → place < PAGE_WORDS
      → (page ≢ HEADER_PAGE) ⊎ ((place ≢ MARK_WORD) × (place ≢ PAGES_WORD) × (place ≢ FREE_HEAD_WORD))
      → word after page place ≡ word m page place

-- The header is changed and each PIN is marked as enabled. Values and tries of the PINs are unchanged.
pub record IsRenamed (end : ℕ) (m after : List ℕ) : Type 0 where
  pub renames : Renames end m after
  pub marked : (pin : ℕ) → pin < 8 → word after (FIRST_PIN_PAGE + pin) PIN_MARK_WORD ≡ 1
  pub pins : KeepsSecrets m after

-- Eight sets, each in a page of its own, are written: one write for their pairs, one for the gate, and eight for the
-- words.
pub record FillsFirstBatch (old new : Memory) : Type 0 where
  pub waiting : new.waiting ≡ []
  pub used : new.used ≡ 8
  pub writes : new.facts.writes ≡ old.facts.writes + 10

-- The set of the first free block joins the waiting ones, if there are blocks from page 1,024 on. Else nothing is
-- set.
abbrev pub JoinsFirst : ℕ → Memory → Memory → Type 0
JoinsFirst end old new = ((end ≢ OLD_END_PAGE) × Joins (record { at = FREE_HEAD; word = OLD_END_PAGE }) old new)
    ⊎ ((end ≡ OLD_END_PAGE) × (new ≡ old))
