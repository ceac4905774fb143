-- A memory that stands for a card finds it: no pair of its journal counts, so undo leaves all but gate and journal.
use Rattle.std.proofs.Common.{◌≡◌, ◌⊎◌, ◌<◌, ◌≤◌, ℕ, Bool, if◌then◌else◌, List, []}
use Rattle.std.proofs.Common.{length, slice_index, All, refl, sym, ◌∙◌, ap, subst, arith, inl, inr, lit<}
use Rattle.std.proofs.lemmas.Bool.Decides.{eqb_tells}
use Rattle.nvm_board.specs.Facts.{address}
use Rattle.nvm_board.specs.Facts.{IsMemory, pages_of}
use Rattle.undo_journal.specs.Undo.{gate, undo, pairs, pairs_from, earlier, Pair, IsOutside, IsDataAddress}
use Rattle.undo_journal.specs.declared.layout.TheConstants.{GATE}
use Rattle.undo_journal.specs.UndoLaws.{length-undo, length-data_words, undo-at, data_words-outside}
use Rattle.block_chain.specs.BlockWords.{word}
use Rattle.block_chain.specs.declared.layout.TheConstants.{HEADER_PAGE}
use Rattle.file_tree.specs.Formats.{SameFormat}
use Rattle.file_tree.specs.Trees.{tree_of, TreeStands}
use Rattle.file_tree.specs.declared.layout.TheConstants.{MARK_WORD, PAGES_WORD, STATE_WORD}
use Rattle.file_tree.specs.TreeChanges.{KeepsTree}
use Rattle.file_tree.specs.laws.Footprints.{tree_kept}
use Rattle.card_model.specs.Cards.{Card}
use Rattle.pin_store.specs.Pages.{pin_page, KeepsPins}
use Rattle.command_base.specs.Standing.{StandsFor, card_of}
use Rattle.command_base.specs.Finding.{words_found, Finds}
use Rattle.command_base.specs.laws.CardLaws.{any_stands, any_tree, card_after}

no_pairs : (m : List ℕ) → gate m ≡ 0 → pairs m ≡ []
unfolding pairs_from
no_pairs m shut = ap (pairs_from m 0) shut

-- a word outside gate and journal is found as it is
pub word_found : (m : List ℕ) → gate m ≡ 0 → (k : ℕ) → k < length m → IsOutside k
    → slice_index (words_found m) k ≡ slice_index m k
unfolding earlier
word_found m shut k lt outside =
    let within : k < length (undo m) = let l = length-undo m in omega (arith, lt, l) in
    data_words-outside (undo m) k within outside ∙ undo-at m k lt
    ∙ elim (eqb_tells k GATE) [
      | inl same ↦ ap (λ (b : Bool). if b then 0 else earlier (pairs m) k (slice_index m k)) same.0
          ∙ sym (ap (slice_index m) same.1 ∙ shut)
      | inr other ↦ ap (λ (b : Bool). if b then 0 else earlier (pairs m) k (slice_index m k)) other.0
          ∙ ap (λ (ps : List Pair). earlier ps k (slice_index m k)) (no_pairs m shut)
    ]

-- a card with its own tree
with_tree : (m : List ℕ) → record (card_of m) { tree = tree_of m } ≡ card_of m
unfolding card_of
with_tree m = refl

module _ (m : List ℕ) (sized : IsMemory m) (shut : gate m ≡ 0) where
  -- a word of a page outside gate and journal
  page_found : (page place : ℕ) → (page < 73) ⊎ (128 ≤ page) → page < pages_of m → place < 16
      → word (words_found m) page place ≡ word m page place
  page_found page place (inl low) high small = word_found m shut (address page place)
      (omega (arith, sized.whole, high, small)) (inl (omega (arith, low, small)))
  page_found page place (inr behind) high small = word_found m shut (address page place)
      (omega (arith, sized.whole, high, small)) (inr (omega (arith, behind)))

  -- and so each word before them
  first_found : (page place : ℕ) → page < 73 → place < 16 → word (words_found m) page place ≡ word m page place
  first_found page place low small = page_found page place (inl low) (omega (arith, low, sized.least)) small

  size_found : length (words_found m) ≡ length m
  size_found = length-data_words (undo m) ∙ length-undo m

  format_found : SameFormat m (words_found m)
  format_found = record {
    mark = first_found HEADER_PAGE MARK_WORD (lit< tt) (lit< tt);
    pages = first_found HEADER_PAGE PAGES_WORD (lit< tt) (lit< tt);
  }

  tree_found : TreeStands m → KeepsTree m (words_found m)
  tree_found stands = record {
    entries = λ page place low high small. first_found page place (omega (arith, high)) small;
    blocks = record {
      size = size_found;
      words = λ page place block small. page_found page place (inr block.0)
          (let within = stands.blocks.inside in omega (arith, block, within)) small;
      head = first_found 0 1 (lit< tt) (lit< tt);
    };
    format = format_found;
  }

  pub stands-found : (c : Card) → StandsFor m c → Finds m c
  stands-found c stands =
      let files = any_tree m stands.words in
      let tree = tree_kept m (words_found m) sized (tree_found files) files in
      let state = first_found HEADER_PAGE STATE_WORD (lit< tt) (lit< tt) in
      let pins : KeepsPins m (words_found m) = record {
        words = λ pin place lt small. first_found (pin_page pin) place (omega (arith, lt)) (omega (arith, small));
      } in
      record {
        has_card = record {
          journal = record { room = omega (arith, shut); places = places };
          words = any_stands m (words_found m) size_found format_found state pins stands.words tree.0;
        };
        card = card_after m (words_found m) size_found format_found state pins
            ∙ (λ i. record (card_of m) { tree = tree.2 i }) ∙ with_tree m ∙ stands.card;
      }
    where
      places : All (λ p. IsDataAddress m p.address) (pairs m)
      places =
          let family : List Pair → Type 0 = λ ps. All (λ p. IsDataAddress m p.address) ps in
          subst family (sym (no_pairs m shut)) (λ i d lt. absurd (omega (arith, lt)))
