-- The guess law of a block: of the command that runs, if one does.
use Rattle.std.specs.Prelude.{◌≡◌, ◌+◌, ℕ, List, length, slice_index}
use Rattle.std.proofs.Common.{ap, inl, inr, subst, sym, ◌∙◌}
use Rattle.std.proofs.lemmas.List.{length-set}
use Rattle.std.proofs.lemmas.List.FromFn.{length-map-range_with_len}
use Rattle.nvm_board.specs.Facts.{raised}
use Rattle.card_model.specs.declared.pins.TheConstants.{PINS}
use Rattle.file_tree.specs.Formats.{is_format_2}
use Rattle.pin_store.specs.Pages.{pin_at, pins_of, unmarked_pins_of}
use Rattle.card_model.specs.Secrets.{enabled_pin, Pin}
use Rattle.t1_link.specs.CardTable.{Reaction, replies, runs}
use Rattle.card_model.specs.Cards.{Card, IsProper}
use Rattle.command_base.specs.Comparing.{Comparisons, comparisons}
use Rattle.command_base.specs.Finding.{HasCard, found, words_found}
use Rattle.card_start.specs.Running.{card_found}
use Rattle.command_base.specs.Standing.{card_of, card_pins}
use Rattle.command_base.specs.laws.FoundLaws.{found_is_proper}
use Rattle.card_model.specs.laws.ProperLaws.{either-if}
use Rattle.card_model.specs.laws.PinLaws.{few-of}
use Rattle.command_base.specs.laws.ShownLaws.{ComparesOrStays, compares-or-stays}
use Rattle.bench_turns.specs.BenchStates.{HasEachCount}
use Rattle.bench_turns.specs.CardBlocks.{BlockCompares, IsBlockStage, Powered}
use Rattle.bench_turns.proofs.GuessesPaid.{ArePaid, attempt-paid, nothing-paid}

-- a card that is found has eight PINs, in either format
pub eight-pins : (m : List ℕ) → length (found m).pins ≡ PINS
unfolding card_of card_pins pins_of unmarked_pins_of
eight-pins m =
    let l = words_found m in
    either-if (λ (pins : List Pin). length pins ≡ PINS) (is_format_2 l) (pins_of l) (unmarked_pins_of l)
    (length-map-range_with_len (pin_at l) 0 PINS) (length-map-range_with_len (λ pin. enabled_pin (pin_at l pin)) 0 PINS)

-- as many counts as there were
raised-length : (counts : List ℕ) (secret : ℕ) → length (raised counts secret) ≡ length counts
raised-length counts secret = length-set counts secret (slice_index counts secret + 1)

module _ (c d : Card) (old new : Comparisons) (counts : HasEachCount old) where
  -- what a command compared is paid for
  compared-pays : ComparesOrStays c d old new → length c.pins ≡ PINS → IsProper d → ArePaid c d old new
  compared-pays (inl stays) eight proper = nothing-paid c d old new stays.1 stays.0
  compared-pays (inr shown) eight proper =
      attempt-paid c d shown.0 old new shown.2 shown.1 counts (few-of d shown.0.pin proper) eight

  -- and each secret still has its counts
  compared-counts : ComparesOrStays c d old new → HasEachCount new
  compared-counts (inl stays) = subst HasEachCount (sym stays.0) counts
  compared-counts (inr shown) =
      let costs = shown.2.costs in
      record {
        compares = elim costs.compares [
          | inl same ↦ ap (λ (l : List ℕ). length l) same ∙ counts.compares
          | inr pays ↦ ap (λ (l : List ℕ). length l) pays.compared ∙ raised-length old.compares shown.0.secret
              ∙ counts.compares
        ];
        matches = elim costs.matches [
          | inl same ↦ ap (λ (l : List ℕ). length l) same ∙ counts.matches
          | inr match ↦ ap (λ (l : List ℕ). length l) match.matched ∙ raised-length old.matches shown.0.secret
              ∙ counts.matches
        ];
      }

-- what a block compares, by the command that runs
pub block-compares : (old new : Powered) (reaction : Reaction) → IsBlockStage old reaction (card_found new.card)
    → BlockCompares old reaction new.card.facts
    → ComparesOrStays (card_found old.card) (card_found new.card) (comparisons old.card.facts)
    (comparisons new.card.facts)
block-compares old new (replies block) stage compares = inl (compares, ap (λ (c : Card). c.pins) stage)
block-compares old new (runs command) stage compares =
    compares-or-stays (card_found old.card) (card_found new.card) old.card.facts new.card.facts old.card.session command
    stage compares

-- a block, whatever comes of it
module _ (old new : Powered) (reaction : Reaction) (stage : IsBlockStage old reaction (card_found new.card))
    (compares : BlockCompares old reaction new.card.facts) (counts : HasEachCount (comparisons old.card.facts)) where
  pub block-pays : HasCard new.card.facts.words
      → ArePaid (card_found old.card) (card_found new.card) (comparisons old.card.facts) (comparisons new.card.facts)
  block-pays there =
      compared-pays (card_found old.card) (card_found new.card) (comparisons old.card.facts)
      (comparisons new.card.facts) counts (block-compares old new reaction stage compares)
      (eight-pins old.card.facts.words) (found_is_proper new.card.facts.words there)

  pub block-counts : HasEachCount (comparisons new.card.facts)
  block-counts =
      compared-counts (card_found old.card) (card_found new.card) (comparisons old.card.facts)
      (comparisons new.card.facts) counts (block-compares old new reaction stage compares)
