-- The migration from format 1 to format 2: the memory at each exit, and the cost.
use Rattle.std.specs.Prelude.{◌≡◌, ◌⊎◌, ◌<◌, ◌+◌, ◌-◌, ℕ, List, length, ◌≢◌}
use Rattle.nvm_board.specs.Facts.{pages_of}
use Rattle.block_chain.specs.BlockWords.{word}
use Rattle.block_chain.specs.declared.layout.TheConstants.{HEADER_PAGE}
use Rattle.file_tree.specs.declared.layout.TheConstants.{MARK_WORD, PAGES_WORD, MARK, OLD_END_PAGE, STATE_WORD}
use Rattle.file_tree.specs.Table.{table}
use Rattle.file_tree.specs.Trees.{tree_of, TreeStands}
use Rattle.pin_store.specs.declared.layout.TheConstants.{FIRST_PIN_PAGE, PIN_MARK_WORD}
use Rattle.pin_store.specs.Pages.{KeepsSecrets}
use Rattle.migration.specs.declared.migrating.TheConstants.{RENAME_WRITES}
use Rattle.undo_journal.specs.Memory.{Memory, committed, IsReady}

-- The memory has the same files, PINs and state, and each file has the same entry.
pub record KeepsCard (m after : List ℕ) : Type 0 where
  pub size : length after ≡ length m
  pub stands : TreeStands after
  pub tree : tree_of after ≡ tree_of m
  pub table : table after ≡ table m
  pub pins : KeepsSecrets m after
  pub state : word after HEADER_PAGE STATE_WORD ≡ word m HEADER_PAGE STATE_WORD

-- The memory has format 2, with all its pages, and each PIN is marked as enabled.
pub record IsNew (m : List ℕ) : Type 0 where
  pub mark : word m HEADER_PAGE MARK_WORD ≡ MARK
  pub pages : word m HEADER_PAGE PAGES_WORD ≡ pages_of m
  pub pins : (pin : ℕ) → pin < 8 → word m (FIRST_PIN_PAGE + pin) PIN_MARK_WORD ≡ 1

-- The memory has the same files, PINs and state, in format 2.
pub record IsMigrated (m after : List ℕ) : Type 0 where
  pub keeps : KeepsCard m after
  pub new : IsNew after

-- The memory has the same files, PINs and state, in its old format or in format 2.
pub record Migrates (m after : List ℕ) : Type 0 where
  pub keeps : KeepsCard m after
  pub format : (word after HEADER_PAGE MARK_WORD ≡ word m HEADER_PAGE MARK_WORD) ⊎ IsNew after

-- The device writes of a migration to `pages` pages: one per new block for its link, and the transaction.
abbrev pub migration_writes : ℕ → ℕ
migration_writes pages = pages - OLD_END_PAGE + RENAME_WRITES

-- The store is ready, and its words are a valid tree of files in another format than 2.
pub record HasOldTree (m : Memory) : Type 0 where
  pub ready : IsReady m
  pub tree : TreeStands (committed m)
  pub old : word (committed m) HEADER_PAGE MARK_WORD ≢ MARK
