-- Laws of the words of a card, in either format: what they have in common, and what a change of some of them leaves.
use Rattle.std.specs.Prelude.{◌≡◌, ◌≢◌, ◌≤◌, ◌-◌, ◌==◌, ℕ, Bool, true, false, if◌then◌else◌, List, length}
use Rattle.std.proofs.Common.{◌∙◌, ap, arith, inl, inr, ⊎_elim}
use Rattle.std.proofs.lemmas.Bool.Decides.{eqb_tells}
use Rattle.nvm_board.specs.Facts.{IsMemory}
use Rattle.nvm_board.specs.laws.Sizes.{pages_same}
use Rattle.block_chain.specs.BlockWords.{word}
use Rattle.block_chain.specs.declared.layout.TheConstants.{FIRST_BLOCK_PAGE, HEADER_PAGE, MOST_BLOCKS}
use Rattle.file_tree.specs.Formats.{block_count, is_format_2, SameFormat}
use Rattle.card_model.specs.Spaces.{free_space}
use Rattle.card_model.specs.declared.space.FreeSpace.{FreeSpace}
use Rattle.file_tree.specs.Trees.{tree_of, TreeStands}
use Rattle.file_tree.specs.declared.layout.TheConstants.{MARK, MARK_WORD, STATE_WORD}
use Rattle.file_tree.specs.laws.Formats.{count_same}
use Rattle.pin_store.specs.Pages.{pins_of, unmarked_pins_of, ArePinPages, KeepsPins, KeepsSecrets}
use Rattle.pin_store.specs.laws.AllPins.{marks_kept, pages_kept, pins_kept, secrets_kept}
use Rattle.card_model.specs.Cards.{card_space}
use Rattle.command_base.specs.Standing.{board_blocks, card_blocks, card_of, card_pins, IsAnyCard, IsCard, IsOldCard}

-- in either format the files make a tree, and the PINs have no more tries than they may have
pub any_tree : (m : List ℕ) → IsAnyCard m → TreeStands m
any_tree m any = ⊎_elim (λ (new : IsCard m). new.tree) (λ (old : IsOldCard m). old.tree) any

pub any_pins : (m : List ℕ) → IsAnyCard m → ArePinPages m
any_pins m any = ⊎_elim (λ (new : IsCard m). new.pins) (λ (old : IsOldCard m). old.pins) any

-- the mark tells the format
pub marked_new : (m : List ℕ) → word m HEADER_PAGE MARK_WORD ≡ MARK → is_format_2 m ≡ true
unfolding is_format_2
marked_new m is = elim (eqb_tells (word m HEADER_PAGE MARK_WORD) MARK) [
  | inl same ↦ same.0
  | inr other ↦ absurd (other.1 is)
]

pub marked_old : (m : List ℕ) → word m HEADER_PAGE MARK_WORD ≢ MARK → is_format_2 m ≡ false
unfolding is_format_2
marked_old m differs = elim (eqb_tells (word m HEADER_PAGE MARK_WORD) MARK) [
  | inl same ↦ absurd (differs same.1)
  | inr other ↦ other.0
]

pub old_mark : (m : List ℕ) → IsOldCard m → word m HEADER_PAGE MARK_WORD ≢ MARK
old_mark m old = λ is. let mark = old.header.mark in let z : ⊥ = omega (arith, is, mark) in z

pub card_format : (m : List ℕ) → IsCard m → is_format_2 m ≡ true
card_format m words = marked_new m words.header.mark

pub old_format : (m : List ℕ) → IsOldCard m → is_format_2 m ≡ false
old_format m old = marked_old m (old_mark m old)

-- and by it the card has its blocks
pub blocks_new : (m : List ℕ) → is_format_2 m ≡ true → card_blocks m ≡ block_count m
unfolding card_blocks
blocks_new m is = ap (λ (b : Bool). if b then block_count m else board_blocks m) is

pub blocks_old : (m : List ℕ) → is_format_2 m ≡ false → card_blocks m ≡ board_blocks m
unfolding card_blocks
blocks_old m is = ap (λ (b : Bool). if b then block_count m else board_blocks m) is

pub card_count : (m : List ℕ) → IsCard m → (card_of m).blocks ≡ block_count m
unfolding card_of
card_count m words = blocks_new m (card_format m words)

-- so what is free on a card of format 2 is what is free in its memory
pub card_space_is : (m : List ℕ) → IsCard m → card_space (card_of m) ≡ free_space (block_count m) (tree_of m)
unfolding card_of
card_space_is m words = ap (λ (n : ℕ). free_space n (tree_of m)) (blocks_new m (card_format m words))

-- and there are no more blocks than pages behind the first 128
pub few_free : (m : List ℕ) → IsMemory m → IsCard m → (card_space (card_of m)).blocks ≤ MOST_BLOCKS
few_free m sized words =
    let space = ap (λ (s : FreeSpace). s.blocks) (card_space_is m words) in
    let inside = words.tree.blocks.inside in
    let most = sized.most in
    omega (arith, space, inside, most)

-- the same header and the same size, as many blocks
pub blocks_same : (m after : List ℕ) → length after ≡ length m → SameFormat m after → card_blocks after ≡ card_blocks m
unfolding card_blocks is_format_2
blocks_same m after size format =
    let count = count_same m after format in
    let pages = pages_same m after size in
    λ i. if format.mark i == MARK then count i else pages i - FIRST_BLOCK_PAGE

-- by the format it has its PINs, too
pub pins_new : (m : List ℕ) → is_format_2 m ≡ true → card_pins m ≡ pins_of m
unfolding card_pins
pins_new m is = ap (λ (b : Bool). if b then pins_of m else unmarked_pins_of m) is

pub pins_old : (m : List ℕ) → is_format_2 m ≡ false → card_pins m ≡ unmarked_pins_of m
unfolding card_pins
pins_old m is = ap (λ (b : Bool). if b then pins_of m else unmarked_pins_of m) is

pub card_pins_are : (m : List ℕ) → IsCard m → (card_of m).pins ≡ pins_of m
unfolding card_of
card_pins_are m words = pins_new m (card_format m words)

-- the same header and the same words of PINs, the same PINs
pub pins_same : (m after : List ℕ) → SameFormat m after → KeepsPins m after → card_pins after ≡ card_pins m
unfolding card_pins is_format_2
pins_same m after format keeps =
    let secrets : KeepsSecrets m after =
    record { words = λ pin place lt small. keeps.words pin place lt (omega (arith, small)) } in
    let marked = pins_kept m after keeps in
    let unmarked = secrets_kept m after secrets in
    λ i. if format.mark i == MARK then marked i else unmarked i

-- Two memories with the same header, but for the free chain, and the same words of PINs.
module _ (m after : List ℕ) (size : length after ≡ length m) (format : SameFormat m after)
    (state : word after HEADER_PAGE STATE_WORD ≡ word m HEADER_PAGE STATE_WORD) (pins : KeepsPins m after) where
  -- a card stays one, if its files still make a tree
  pub card_stands : IsCard m → TreeStands after → IsCard after
  card_stands words stands = record {
    header = record {
      mark = format.mark ∙ words.header.mark;
      end = let was = words.header.end in let is = format.pages in omega (arith, is, was);
      state = let was = words.header.state in omega (arith, state, was);
    };
    tree = stands;
    pins = pages_kept m after pins words.pins;
    marks = marks_kept m after pins words.marks;
  }

  pub old_stands : IsOldCard m → TreeStands after → IsOldCard after
  old_stands words stands = record {
    header = record {
      mark = format.mark ∙ words.header.mark;
      state = let was = words.header.state in omega (arith, state, was);
    };
    tree = stands;
    pins = pages_kept m after pins words.pins;
  }

  pub any_stands : IsAnyCard m → TreeStands after → IsAnyCard after
  any_stands words stands = ⊎_elim (λ (new : IsCard m). inl (card_stands new stands))
      (λ (old : IsOldCard m). inr (old_stands old stands)) words

  -- and only its tree is another
  pub card_after : card_of after ≡ record (card_of m) { tree = tree_of after }
  unfolding card_of
  card_after =
      let blocks = blocks_same m after size format in
      let same = pins_same m after format pins in
      λ i. record {
        tree = tree_of after;
        pins = same i;
        in_use = state i == 0;
        blocks = blocks i;
      }
