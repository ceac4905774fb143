-- The two formats of a memory: their marks and their numbers of blocks.
use Rattle.std.specs.Prelude.{◌≡◌, ◌==◌, ◌-◌, ℕ, Bool, if◌then◌else◌, List}
use Rattle.block_chain.specs.BlockWords.{word}
use Rattle.block_chain.specs.declared.layout.TheConstants.{HEADER_PAGE, FIRST_BLOCK_PAGE}
use Rattle.file_tree.specs.declared.layout.TheConstants.{MARK_WORD, PAGES_WORD, MARK, OLD_END_PAGE}

-- True if the header has the mark of format 2.
unfoldable pub is_format_2 : List ℕ → Bool
is_format_2 m = word m HEADER_PAGE MARK_WORD == MARK

-- The page where the blocks end: the header names it in format 2, in format 1 it is page 1,024.
unfoldable pub end_page : List ℕ → ℕ
end_page m = if is_format_2 m then word m HEADER_PAGE PAGES_WORD else OLD_END_PAGE

-- The number of blocks. The first block is page 128.
unfoldable pub block_count : List ℕ → ℕ
block_count m = end_page m - FIRST_BLOCK_PAGE

-- The header's words for the format and for the end of the blocks are unchanged.
pub record SameFormat (m after : List ℕ) : Type 0 where
  pub mark : word after HEADER_PAGE MARK_WORD ≡ word m HEADER_PAGE MARK_WORD
  pub pages : word after HEADER_PAGE PAGES_WORD ≡ word m HEADER_PAGE PAGES_WORD
