-- What the entries of a card's memory say of its files and of the session.
use Rattle.std.proofs.Common.{◌≡◌, ℕ, List, sym, ◌∙◌, ⊎_elim, arith}
use Rattle.file_tree.specs.Trees.{TreeStands}
use Rattle.file_tree.specs.declared.layout.TheConstants.{MARK, OLD_MARK}
use Rattle.command_base.specs.Standing.{IsAnyCard, IsCard, IsHeader, IsOldCard, IsOldHeader}
use Rattle.card_start.specs.declared.memory_format.MemoryFormat.{MemoryFormat}
use Rattle.card_start.specs.declared.memory_format.MemoryFormat.TheVariants.{One, Two}
use Rattle.card_start.specs.StartParts.{HoldsPins, IsCardIn, IsHeaderIn}

-- what the parts of the check of a memory say together
pub card_told : (m : List ℕ) (format : MemoryFormat) → IsHeaderIn format m → HoldsPins format m → TreeStands m
    → IsCardIn format m
card_told m One header pins tree = record { header = header; tree = tree; pins = pins }
card_told m Two header pins tree = record { header = header; tree = tree; pins = pins.0; marks = pins.1 }

-- a memory without a valid header, with wrong PINs or without a valid tree is no valid card image
pub no_header : (m : List ℕ) → ¬ IsHeader m × ¬ IsOldHeader m → ¬ IsAnyCard m
no_header m none card = ⊎_elim (λ (new : IsCard m). none.0 new.header) (λ (old : IsOldCard m). none.1 old.header) card

pub no_pins : (m : List ℕ) (format : MemoryFormat) → IsHeaderIn format m → ¬ HoldsPins format m → ¬ IsAnyCard m
no_pins m One header not card =
    ⊎_elim (λ (new : IsCard m). not new.pins) (λ (old : IsOldCard m). not old.pins) card
no_pins m Two header not card =
    ⊎_elim (λ (new : IsCard m). not (new.pins, new.marks))
    (λ (old : IsOldCard m). let same : OLD_MARK ≡ MARK = sym old.header.mark ∙ header.mark in
    absurd (omega (arith, same))) card

pub no_tree : (m : List ℕ) → ¬ TreeStands m → ¬ IsAnyCard m
no_tree m not card = ⊎_elim (λ (new : IsCard m). not new.tree) (λ (old : IsOldCard m). not old.tree) card
