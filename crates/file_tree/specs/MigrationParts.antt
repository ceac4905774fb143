-- The last step of the migration from format 1 to format 2: its transaction, after the new blocks are linked.
use Rattle.std.specs.Prelude.{◌≡◌, ◌==◌, ◌<◌, ◌≤◌, ℕ, List, length, if◌then◌else◌}
use Rattle.nvm_board.specs.declared.board.TheConstants.{PAGE_WORDS}
use Rattle.block_chain.specs.BlockWords.{word}
use Rattle.block_chain.specs.declared.layout.TheConstants.{HEADER_PAGE, FREE_HEAD_WORD, FIRST_BLOCK_PAGE}
use Rattle.file_tree.specs.declared.layout.TheConstants.{MARK_WORD, PAGES_WORD, MARK, OLD_END_PAGE, STATE_WORD}

-- The header has the mark of format 2 and names page `end` as the end of the blocks. If there are new blocks, page
-- 1,024 is the first free one. The state, the entries and the blocks are unchanged.
pub record Renames (end : ℕ) (m after : List ℕ) : Type 0 where
  pub size : length after ≡ length m
  pub mark : word after HEADER_PAGE MARK_WORD ≡ MARK
  pub pages : word after HEADER_PAGE PAGES_WORD ≡ end
  pub head : word after HEADER_PAGE FREE_HEAD_WORD
      ≡ (if end == OLD_END_PAGE then word m HEADER_PAGE FREE_HEAD_WORD else OLD_END_PAGE)
  pub state : word after HEADER_PAGE STATE_WORD ≡ word m HEADER_PAGE STATE_WORD
  pub entries : (page place : ℕ) → 1 ≤ page → page < 65 → place < PAGE_WORDS
      → word after page place ≡ word m page place
  pub blocks : (page place : ℕ) → FIRST_BLOCK_PAGE ≤ page → place < PAGE_WORDS
      → word after page place ≡ word m page place
