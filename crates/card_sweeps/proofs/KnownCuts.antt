-- The board that a cut of a device write leaves, by its mask.
use Rattle.std.specs.Prelude.{◌≤◌, ℕ, List}
use Rattle.std.proofs.Common.{arith, inl, inr, refl, subst, sym}
use Rattle.nvm_board.specs.Facts.{Facts}
use Rattle.card_sweeps.specs.declared.turn_cuts.MadeWrite.{MadeWrite}
use Rattle.card_sweeps.specs.Masks.{mask_of}
use Rattle.card_sweeps.specs.Sweeps.{CutsTurn, SweptTurn}
use Rattle.card_sweeps.specs.TurnCuts.{IsKnownCut, IsMade, LeavesMasked, made_run}
use Rattle.card_sweeps.specs.WrittenRuns.{IsMasked}

module _ {B : Type 0} (facts : B → Facts) where
  none-leaves : (torn : B → ℕ) (swept : SweptTurn) (write : ℕ) (before : List ℕ) (made : MadeWrite B)
      → IsMade facts torn swept write before made → LeavesMasked facts swept write before made 0 made.none
  none-leaves torn swept write before made is = record {
    none = λ _. refl;
    all = λ one. absurd (omega (arith, one));
    cut = is.none;
    masked = is.none_new;
  }

  all-leaves : (torn : B → ℕ) (swept : SweptTurn) (write : ℕ) (before : List ℕ) (made : MadeWrite B)
      → IsMade facts torn swept write before made → LeavesMasked facts swept write before made 1 made.after
  all-leaves torn swept write before made is = record {
    none = λ none. absurd (omega (arith, none));
    all = λ _. refl;
    cut = is.all;
    masked = is.all_new;
  }

  -- one of the first two masks
  pub known-leaves : (torn : B → ℕ) (swept : SweptTurn) (write : ℕ) (before : List ℕ) (made : MadeWrite B) (i : ℕ)
      (left : B) → IsMade facts torn swept write before made → IsKnownCut made i left
      → LeavesMasked facts swept write before made i left
  known-leaves torn swept write before made i left is known = elim known [
    | inl it ↦ subst (λ (n : ℕ). LeavesMasked facts swept write before made n left) (sym it.0)
        (subst (λ (b : B). LeavesMasked facts swept write before made 0 b) (sym it.1)
        (none-leaves torn swept write before made is))
    | inr it ↦ subst (λ (n : ℕ). LeavesMasked facts swept write before made n left) (sym it.0)
        (subst (λ (b : B). LeavesMasked facts swept write before made 1 b) (sym it.1)
        (all-leaves torn swept write before made is))
  ]

  -- another mask
  pub other-leaves : (swept : SweptTurn) (write : ℕ) (before : List ℕ) (made : MadeWrite B) (i : ℕ) (left : B) → 2 ≤ i
      → CutsTurn write (mask_of made.words i) swept (facts left)
      → IsMasked (made_run facts before made) i (facts left).words → LeavesMasked facts swept write before made i left
  other-leaves swept write before made i left later cut masked = record {
    none = λ is. absurd (omega (arith, is, later));
    all = λ is. absurd (omega (arith, is, later));
    cut = cut;
    masked = masked;
  }
