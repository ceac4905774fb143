-- A PIN is set in a memory that stands for a card.
use Rattle.std.proofs.Common.{◌≡◌, ◌⊎◌, ◌<◌, ◌≤◌, ◌+◌, ◌-◌, ◌==◌, ℕ, List, slice_set, sym, ◌∙◌, ap, arith, inl}
use Rattle.std.proofs.Common.{inr, lit<, slice_index_or}
use Rattle.std.proofs.lemmas.List.FromFn.{get_or-map-range_with_len}
use Rattle.nvm_board.specs.Facts.{address}
use Rattle.nvm_board.specs.Facts.{IsMemory}
use Rattle.block_chain.specs.BlockWords.{word}
use Rattle.file_tree.specs.Table.{table}
use Rattle.file_tree.specs.TreeChanges.{KeepsTree}
use Rattle.file_tree.specs.Formats.{SameFormat}
use Rattle.file_tree.specs.declared.layout.TheConstants.{MARK_WORD, PAGES_WORD}
use Rattle.file_tree.specs.laws.Footprints.{tree_kept}
use Rattle.card_model.specs.Pins.{IsPinNumber}
use Rattle.pin_store.specs.Pages.{pin_at, pin_page, pins_of, ArePinPages, SetsPin}
use Rattle.card_model.specs.declared.pins.TheConstants.{PINS}
use Rattle.pin_store.specs.declared.layout.TheConstants.{PIN_WORDS}
use Rattle.pin_store.specs.laws.AllPins.{marks_set, pins_set}
use Rattle.card_model.specs.Cards.{Pin}
use Rattle.card_model.specs.Behaviours.{no_pin, pin_of, with_pin_of}
use Rattle.command_base.specs.Standing.{card_of, IsCard}
use Rattle.command_base.specs.laws.CardLaws.{blocks_same, card_format, card_pins_are, marked_new, pins_new}

-- PIN n of the card is the one of its page
pin-placed : (m : List ℕ) (k : ℕ) → k < PINS → slice_index_or (pins_of m) k no_pin ≡ pin_at m k
unfolding pins_of
pin-placed m k small = let place : 0 + k ≡ k = omega arith in
    get_or-map-range_with_len (pin_at m) 0 PINS k k no_pin small place

pub pin-is : (m : List ℕ) (n : ℕ) → IsCard m → IsPinNumber n → pin_of (card_of m) n ≡ pin_at m (n - 1)
pin-is m n words number =
    let first = number.first in
    let last = number.last in
    ap (λ (pins : List Pin). slice_index_or pins (n - 1) no_pin) (card_pins_are m words)
    ∙ pin-placed m (n - 1) (omega (arith, first, last))

module _ (m after : List ℕ) (sized : IsMemory m) (words : IsCard m) (n : ℕ) (number : IsPinNumber n) (now : Pin)
    (sets : SetsPin m (n - 1) now after) where
  small : n - 1 < PINS
  small =
      let first = number.first in
      let last = number.last in
      omega (arith, first, last)

  -- no word of another page changes
  word-kept : (page place : ℕ) → (page < 65) ⊎ (128 ≤ page) → place < 16 → word after page place ≡ word m page place
  word-kept page place (inl low) few =
      let lt : address page place < address (pin_page (n - 1)) 0 = omega (arith, low, few) in
      sets.elsewhere (address page place) (inl lt)
  word-kept page place (inr high) few =
      let within = small in
      let le : address (pin_page (n - 1)) PIN_WORDS ≤ address page place = omega (arith, high, within) in
      sets.elsewhere (address page place) (inr le)

  format : SameFormat m after
  format = record {
    mark = word-kept 0 MARK_WORD (inl (lit< tt)) (lit< tt);
    pages = word-kept 0 PAGES_WORD (inl (lit< tt)) (lit< tt);
  }

  tree-words : KeepsTree m after
  tree-words = record {
    entries = λ page place from below few. word-kept page place (inl below) few;
    blocks = record {
      size = sets.size;
      words = λ page place block few. word-kept page place (inr block.0) few;
      head = word-kept 0 1 (inl (lit< tt)) (lit< tt);
    };
    format = format;
  }

  state : word after 0 2 ≡ word m 0 2
  state = word-kept 0 2 (inl (lit< tt)) (lit< tt)

  -- the card has the PIN, and nothing else of it changes
  pub pin-set : card_of after ≡ with_pin_of (card_of m) n now
  unfolding card_of
  pin-set =
      let kept = tree_kept m after sized tree-words words.tree in
      let blocks = blocks_same m after sets.size format in
      let pins = pins_new after (marked_new after (format.mark ∙ words.header.mark))
      ∙ pins_set m after (n - 1) now small sets
      ∙ sym (ap (λ (all : List Pin). slice_set all (n - 1) now) (pins_new m (card_format m words))) in
      λ i. record {
        tree = kept.2 i;
        pins = pins i;
        in_use = state i == 0;
        blocks = blocks i;
      }

  pub pin-stands : ArePinPages after → IsCard after
  pin-stands pages = record {
    header = record {
      mark = format.mark ∙ words.header.mark;
      end = let was = words.header.end in let is = format.pages in omega (arith, is, was);
      state = let was = words.header.state in let is = state in omega (arith, is, was);
    };
    tree = (tree_kept m after sized tree-words words.tree).0;
    pins = pages;
    marks = marks_set m after (n - 1) now sets words.marks;
  }

  pub pin-table : table after ≡ table m
  pin-table = (tree_kept m after sized tree-words words.tree).1
