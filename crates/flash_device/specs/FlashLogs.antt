-- The words that a flash stands for.
use Rattle.std.specs.Prelude.{◌+◌, ◌*◌, ◌/◌, ◌%◌, ℕ, zero, suc, Bool, List, [], ◌∷◌}
use Rattle.std.specs.Prelude.{◌&&◌, not, nat_eq, slice_index, if◌then◌else◌}
use Rattle.flash_device.specs.declared.flash.TheConstants.{BLANK}
use Rattle.flash_device.specs.FlashBlocks.{area_size, witness_start}
use Rattle.flash_device.specs.declared.layout.TheConstants.{FIRST_MARK, SECOND_MARK}

-- a mark is there, exactly
unfoldable pub is_marked : List ℕ → ℕ → Bool
is_marked m at = nat_eq (slice_index m at) FIRST_MARK && nat_eq (slice_index m (at + 1)) SECOND_MARK

-- a block is closed: the place of its mark is not blank, whatever it holds
unfoldable pub is_closed : List ℕ → ℕ → Bool
is_closed m at = not (nat_eq (slice_index m at) BLANK && nat_eq (slice_index m (at + 1)) BLANK)

-- the address of a slot
abbrev pub slot_of : ℕ → ℕ → ℕ
slot_of base s = base + 20 * s

-- a slot holds a page: it is marked, and names the page
abbrev pub holds : List ℕ → ℕ → ℕ → ℕ → Bool
holds m base s p = is_marked m (slot_of base s + 18) && nat_eq (slice_index m (slot_of base s + 16)) p

-- the last slot of the first n that holds a page, and 1; or 0
unfoldable pub find : List ℕ → ℕ → ℕ → ℕ → ℕ
find m base zero p = 0
find m base (suc n) p = if holds m base n p then suc n else find m base n p

-- a word of the page that is found
abbrev pub word_of : List ℕ → ℕ → ℕ → ℕ → ℕ
word_of m base zero k = 0
word_of m base (suc s) k = slice_index m (slot_of base s + k)

-- a word of a page, by the first n slots of an area
abbrev pub page_word : List ℕ → ℕ → ℕ → ℕ → ℕ → ℕ
page_word m base n p k = word_of m base (find m base n p) k

-- the word at an address of the board
abbrev pub word_in : List ℕ → ℕ → ℕ → ℕ → ℕ
word_in m base n i = page_word m base n (i / 16) (i % 16)

-- so many words by their addresses
unfoldable pub image : (ℕ → ℕ) → ℕ → ℕ → List ℕ
image f at zero = []
image f at (suc n) = f at ∷ image f (at + 1) n

-- the address of the mark that closes area B, behind its slots
abbrev pub close_b : ℕ → ℕ
close_b slots = area_size slots + 20 * slots

-- the address of the mark that closes a block
abbrev pub close_of : ℕ → ℕ → ℕ
close_of slots block =
    if nat_eq block 0 then 20 * slots else if nat_eq block 1 then close_b slots else witness_start slots

-- whose turn it is, by which blocks are closed: that of the open block behind a closed one
abbrev pub turn_by : Bool → Bool → Bool → ℕ
turn_by a b c = if a && not b then 1 else if b && not c then 2 else 0

unfoldable pub turn_of : ℕ → List ℕ → ℕ
turn_of slots m =
    turn_by (is_closed m (20 * slots)) (is_closed m (close_b slots)) (is_closed m (witness_start slots))

-- where the pages are in a turn
abbrev pub base_in : ℕ → ℕ → ℕ
base_in slots turn = if nat_eq turn 0 then 0 else area_size slots

-- the words of the board that the flash stands for, by the number of pages and that of the slots of an area
unfoldable pub words_of : ℕ → ℕ → List ℕ → List ℕ
words_of pages slots m = image (word_in m (base_in slots (turn_of slots m)) slots) 0 (16 * pages)
