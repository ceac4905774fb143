-- The factory image in both formats: the master file, one elementary file, eight PINs, and all other blocks free.
use Rattle.std.specs.Prelude.{◌≡◌, ◌<◌, ◌≤◌, ℕ, ◌+◌, ◌-◌, ◌==◌, ◌&&◌, nat_lt, nat_le, true, List, [], ◌∷◌, ◌++◌, length}
use Rattle.std.specs.Prelude.{replicate}
use Rattle.std.specs.Prelude.{if◌then◌else◌, None, Some, Result, Err, IfOk, IfErr}
use Rattle.std.specs.FinMap.{from_entries}
use Rattle.nvm_board.specs.declared.board.TheConstants.{PAGE_WORDS}
use Rattle.nvm_board.specs.declared.board.DeviceErr.{DeviceErr}
use Rattle.nvm_board.specs.Facts.{Answered, Facts, Steady, pages_of}
use Rattle.undo_journal.specs.Spending.{WritesAtMost}
use Rattle.card_model.specs.declared.life_cycle.LifeCycle.TheVariants.{Activated}
use Rattle.block_chain.specs.declared.layout.TheConstants.{FIRST_BLOCK_PAGE}
use Rattle.block_chain.specs.BlockWords.{page_words}
use Rattle.file_tree.specs.declared.layout.TheConstants.{FIRST_ENTRY_PAGE}
use Rattle.card_model.specs.declared.space.FreeSpace.{FreeSpace}
use Rattle.pin_store.specs.declared.layout.TheConstants.{FIRST_PIN_PAGE}
use Rattle.card_model.specs.declared.pins.TheConstants.{PINS}
use Rattle.block_chain.specs.declared.layout.TheConstants.{HEADER_PAGE}
use Rattle.file_tree.specs.declared.layout.TheConstants.{MARK, OLD_END_PAGE, OLD_MARK}
use Rattle.card_start.specs.declared.memory_format.MemoryFormat.{MemoryFormat}
use Rattle.card_start.specs.declared.memory_format.MemoryFormat.TheVariants.{One, Two}
use Rattle.card_model.specs.Cards.{card_space, transparent, dedicated, elementary, File, Tree, Pin, Card}
use Rattle.command_base.specs.Finding.{Finds, found as found_card}
use Rattle.command_base.specs.Standing.{StandsFor, board_blocks}

-- the words of a page that begins with `words`; the filler fills the rest
abbrev pub filled : List ℕ → ℕ → List ℕ
filled words filler = words ++ replicate (PAGE_WORDS - length words) filler

-- the header: the mark, the first free block, the state in use, and in format 2 the page where the blocks end
abbrev pub factory_header : MemoryFormat → ℕ → List ℕ
factory_header One end = filled (OLD_MARK ∷ (FIRST_BLOCK_PAGE + 1) ∷ []) 0
factory_header Two end = filled (MARK ∷ (FIRST_BLOCK_PAGE + 1) ∷ 0 ∷ end ∷ []) 0

-- entry 0, the master file: activated, rule 27 18 00 00 00
abbrev pub factory_master : List ℕ
factory_master = filled (0x01053F00 ∷ 0x00000005 ∷ 0x27180000 ∷ []) 0

-- entry 1: the transparent file 2FE2, activated, short identifier 2, rule 03 11 00, with 10 bytes in the first block
abbrev pub factory_file : List ℕ
factory_file = filled (0x02052FE2 ∷ 0x00020003 ∷ 0x03110000 ∷ 0 ∷ 0 ∷ 0 ∷ 0 ∷ 0 ∷ 0x000A0000 ∷ 0x00800080 ∷ []) 0

-- each PIN: 3 tries and 10 unblocking tries; the value 31 32 33 34 FF FF FF FF;
-- the unblocking value 31 32 33 34 35 36 37 38; in format 2 its mark
abbrev pub factory_pin_mark : MemoryFormat → ℕ
factory_pin_mark One = 0
factory_pin_mark Two = 1

abbrev pub factory_pin_page : MemoryFormat → List ℕ
factory_pin_page format =
    filled (3 ∷ 10 ∷ 0x31323334 ∷ 0xFFFFFFFF ∷ 0x31323334 ∷ 0x35363738 ∷ factory_pin_mark format ∷ []) 0

-- the first block: the contents of the file, 98 10 32 54 76 98 10 32 54 76
abbrev pub factory_block : List ℕ
factory_block = filled (0 ∷ 0x98103254 ∷ 0x76981032 ∷ 0x5476FFFF ∷ []) 0xFFFFFFFF

-- a free block, linked to the next page; the last one has no link
abbrev pub factory_free_block : ℕ → ℕ → List ℕ
factory_free_block end page = filled ((if page + 1 == end then 0 else page + 1) ∷ []) 0

-- the words of each page, where the blocks end at page `end`
abbrev pub factory_page : MemoryFormat → ℕ → ℕ → List ℕ
factory_page format end page =
    if page == HEADER_PAGE then factory_header format end else
    if page == FIRST_ENTRY_PAGE then factory_master else
    if page == FIRST_ENTRY_PAGE + 1 then factory_file else
    if nat_le FIRST_PIN_PAGE page && nat_lt page (FIRST_PIN_PAGE + PINS) then factory_pin_page format else
    if nat_lt page FIRST_BLOCK_PAGE then filled [] 0 else
    if page == FIRST_BLOCK_PAGE then factory_block else
    factory_free_block end page

-- The pages before `end` are the factory's, with blocks that end there; the pages from `end` on are unchanged.
pub record IsWritten (format : MemoryFormat) (end : ℕ) (m after : List ℕ) : Type 0 where
  pub size : length after ≡ length m
  pub pages : (page : ℕ) → page < end → page_words after page ≡ factory_page format end page
  pub behind : (page : ℕ) → end ≤ page → page_words after page ≡ page_words m page

-- the page where the blocks end: after the last page of the memory, or page 1,024 in format 1
abbrev pub factory_end : MemoryFormat → List ℕ → ℕ
factory_end One m = OLD_END_PAGE
factory_end Two m = pages_of m

-- each page before the end is the factory's; in format 1 the pages from the end on are arbitrary
abbrev pub IsFactory : MemoryFormat → List ℕ → Type 0
IsFactory format m =
    (page : ℕ) → page < factory_end format m → page_words m page ≡ factory_page format (factory_end format m) page

-- a PIN of the factory
abbrev pub factory_pin : Pin
factory_pin = record {
  value = 0x31 ∷ 0x32 ∷ 0x33 ∷ 0x34 ∷ 0xFF ∷ 0xFF ∷ 0xFF ∷ 0xFF ∷ [];
  tries = 3;
  unblocking = 0x31 ∷ 0x32 ∷ 0x33 ∷ 0x34 ∷ 0x35 ∷ 0x36 ∷ 0x37 ∷ 0x38 ∷ [];
  unblocking_tries = 10;
  enabled = true;
}

-- the master file: activated, without a name, rule 27 18 00 00 00
abbrev pub master_of_factory : File
master_of_factory = record { life = Activated; rule = 0x27 ∷ 0x18 ∷ 0x00 ∷ 0x00 ∷ 0x00 ∷ []; kind = dedicated None }

-- the contents of the elementary file
abbrev pub factory_content : List ℕ
factory_content = 0x98 ∷ 0x10 ∷ 0x32 ∷ 0x54 ∷ 0x76 ∷ 0x98 ∷ 0x10 ∷ 0x32 ∷ 0x54 ∷ 0x76 ∷ []

-- its elementary file: activated, short identifier 2, rule 03 11 00
abbrev pub file_of_factory : File
file_of_factory = record {
  life = Activated;
  rule = 0x03 ∷ 0x11 ∷ 0x00 ∷ [];
  kind = elementary (Some 2) (transparent factory_content);
}

-- its two files
abbrev pub factory_tree : Tree
factory_tree = from_entries (([], master_of_factory) ∷ (0x2FE2 ∷ [], file_of_factory) ∷ [])

-- the factory card with `n` blocks; in either format these are all blocks of its board
abbrev pub factory_card : ℕ → Card
factory_card n = record {
  tree = factory_tree;
  pins = replicate PINS factory_pin;
  in_use = true;
  blocks = n;
}

-- the free space: all blocks but that of the elementary file, and all entries but two
abbrev pub factory_space : ℕ → FreeSpace
factory_space n = record { blocks = n - 1; entries = 62 }

-- The result of writing the factory image to a board: a valid card image of the factory card, with one device write a
-- page. On an error the board is returned with the device's answer.
pub record Formats {B : Type 0} (facts : B → Facts) (format : MemoryFormat) (board : B)
    (result : Result B (B × DeviceErr)) : Type 0 where
  pub factory : IfOk result (λ b. IsFactory format (facts b).words)
  pub stands : IfOk result (λ b. StandsFor (facts b).words (factory_card (board_blocks (facts b).words)))
  pub found : IfOk result (λ b. Finds (facts b).words (factory_card (board_blocks (facts b).words)))
  pub space : IfOk result (λ b. card_space (found_card (facts b).words) ≡ factory_space (board_blocks (facts b).words))
  pub written : IfOk result
      (λ b. IsWritten format (factory_end format (facts board).words) (facts board).words (facts b).words)
  pub power : IfOk result (λ b. Steady (facts board) (facts b))
  pub power_err : IfErr result (λ e. Answered {T = Unit {0}} (facts board) (facts e.0) (Err e.1))
  pub counts : IfOk result (λ b. WritesAtMost (factory_end format (facts board).words) (facts board) (facts b))
  pub counts_err : IfErr result (λ e. WritesAtMost (factory_end format (facts board).words) (facts board) (facts e.0))
