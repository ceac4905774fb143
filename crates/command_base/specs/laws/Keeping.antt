-- A change of the files leaves the header and the PINs of a card.
use Rattle.std.proofs.Common.{◌≡◌, ◌≢◌, ◌<◌, ℕ, List}
use Rattle.std.proofs.Common.{arith, inr, inl, lit<}
use Rattle.nvm_board.specs.Facts.{IsMemory}
use Rattle.block_chain.specs.BlockWords.{word}
use Rattle.file_tree.specs.TreeChanges.{KeepsRest, IsEntryPage}
use Rattle.file_tree.specs.Formats.{SameFormat}
use Rattle.file_tree.specs.Trees.{tree_of, TreeStands}
use Rattle.file_tree.specs.declared.layout.TheConstants.{MARK_WORD, PAGES_WORD, STATE_WORD}
use Rattle.pin_store.specs.Pages.{pin_page, pin_word, KeepsPins}
use Rattle.card_model.specs.declared.pins.TheConstants.{PINS}
use Rattle.block_chain.specs.declared.layout.TheConstants.{HEADER_PAGE}
use Rattle.command_base.specs.Standing.{card_of, IsCard}
use Rattle.command_base.specs.laws.CardLaws.{card_after, card_stands}

-- a change of files alone
module _ (m after : List ℕ) (sized : IsMemory m) (rest : KeepsRest m after) where
  header-kept : (place : ℕ) → place < 16 → place ≢ 1 → word after HEADER_PAGE place ≡ word m HEADER_PAGE place
  header-kept place small other =
      rest.words HEADER_PAGE place small (λ (is : IsEntryPage HEADER_PAGE). let low = is.0 in let z : ⊥ = omega
      (arith, low) in z) (λ block. let low = block.0 in let z : ⊥ = omega (arith, low) in z) (inr other)

  format-kept : SameFormat m after
  format-kept = record {
    mark = header-kept MARK_WORD (lit< tt) (λ is. let z : ⊥ = omega (arith, is) in z);
    pages = header-kept PAGES_WORD (lit< tt) (λ is. let z : ⊥ = omega (arith, is) in z);
  }

  state-kept : word after HEADER_PAGE STATE_WORD ≡ word m HEADER_PAGE STATE_WORD
  state-kept = header-kept STATE_WORD (lit< tt) (λ is. let z : ⊥ = omega (arith, is) in z)

  pin-kept : (pin place : ℕ) → pin < PINS → place < 16 → pin_word after pin place ≡ pin_word m pin place
  pin-kept pin place lt small =
      rest.words (pin_page pin) place small (λ (is : IsEntryPage (pin_page pin)). let high = is.1 in let z : ⊥ = omega
      (arith, high) in z)
      (λ block. let low = block.0 in let z : ⊥ = omega (arith, low, lt) in z)
      (inl (λ is. let z : ⊥ = omega (arith, is) in z))

  pins-kept : KeepsPins m after
  pins-kept = record { words = λ pin place lt few. pin-kept pin place lt (omega (arith, few)) }

  pub files-stand : IsCard m → TreeStands after → IsCard after
  files-stand = card_stands m after rest.size format-kept state-kept pins-kept

  pub files-after : card_of after ≡ record (card_of m) { tree = tree_of after }
  files-after = card_after m after rest.size format-kept state-kept pins-kept
