-- The power-on of a new board with given words. It loses no power and has no fault, so it fails by its words alone.
use Rattle.std.specs.Prelude.{◌≡◌, ◌==◌, ◌≤◌, ◌<◌, ◌+◌, ◌^◌, ℕ, List, All}
use Rattle.std.proofs.Common.{◌∙◌, ap, arith, inl, inr, subst, sym, true≢false}
use Rattle.std.proofs.lemmas.List.Elements.{All-replicate}
use Rattle.nvm_board.specs.Facts.{Facts, GoesDark, IsMemory}
use Rattle.nvm_board.specs.declared.board.TheConstants.{COUNT_END, SECRETS}
use Rattle.simulated_boards.specs.Cut.{cut_facts}
use Rattle.simulated_boards.specs.Given.{board_with}
use Rattle.simulated_boards.specs.declared.cut_board.CutBoard.{CutBoard}
use Rattle.simulated_boards.specs.laws.Counts.{cut_is_board}
use Rattle.undo_journal.specs.Spending.{WritesAtMost, start_writes}
use Rattle.undo_journal.specs.Undo.{IsSound, gate}
use Rattle.undo_journal.specs.declared.layout.TheConstants.{GATE}
use Rattle.card_model.specs.laws.ProperLaws.{at-or, either-if}
use Rattle.command_base.specs.Finding.{HasCard, words_found}
use Rattle.command_base.specs.Standing.{IsAnyCard}
use Rattle.card_start.specs.Running.{StartStopsBy}
use Rattle.card_start.specs.Starting.{power_on_writes}
use Rattle.card_start.specs.declared.faults.StartFault.{StartFault}
use Rattle.card_start.specs.declared.faults.StartFault.TheVariants.{BadJournal, Damaged, PowerLost, Fault}
use Rattle.bench_turns.specs.BenchStates.{off}
use Rattle.bench_turns.specs.Lasting.{HasLeft}
use Rattle.bench_turns.specs.declared.turn.Turn.TheVariants as turn
use Rattle.bench_turns.proofs.Wearing.{few-renewal, few-steps, not-worn}
use Rattle.card_boards.specs.Images.{IsFaultOf, IsRefusedRightly}
use Rattle.card_boards.specs.declared.image.NoCard.TheVariants.{Start}

-- a rollback makes a write for each pair that counts, fewer than 2 ^ 32, and one for the gate
few-rolled : (f : Facts) → gate f.words < 2 ^ 32 → start_writes f ≤ 4294967296
few-rolled f small =
    either-if (λ (n : ℕ). n ≤ 4294967296) (gate f.words == 0) 0 (gate f.words + 1) (omega arith) (omega (arith, small))

-- words of a board are a memory
pub board_is_memory : (words : List ℕ) (board : CutBoard) → cut_facts board ≡ board_with words → IsMemory words
board_is_memory words board is = subst IsMemory (ap (λ (f : Facts). f.words) is) (cut_is_board board).sized

module _ (words : List ℕ) (first last : CutBoard) (new_is : cut_facts first ≡ board_with words)
    (writes : WritesAtMost (power_on_writes (cut_facts first)) (cut_facts first) (cut_facts last)) where
  few-writes : (cut_facts last).writes < COUNT_END
  few-writes =
      let board = cut_is_board first in
      let small = at-or (λ (w : ℕ). w < 2 ^ 32) (cut_facts first).words GATE 0 (omega arith) board.words_fit in
      let rolled = few-rolled (cut_facts first) small in
      let renewed = few-renewal (cut_facts first).words board.sized in
      let steps = few-steps (off (cut_facts first)) turn.On in
      let none : (cut_facts first).writes ≡ 0 = ap (λ (f : Facts). f.writes) new_is in
      let most = writes.writes in
      omega (arith, rolled, renewed, steps, none, most)

  few-counts : (counts : List ℕ) → counts ≡ (board_with words).compares → All (λ c. c + 0 < COUNT_END) counts
  few-counts counts same =
      subst (λ (l : List ℕ). All (λ c. c + 0 < COUNT_END) l) (sym same)
      (All-replicate (λ (c : ℕ). c + 0 < COUNT_END) SECRETS 0 (omega arith))

  -- no count comes to its end
  counts-left : GoesDark (cut_facts first) (cut_facts last) → HasLeft 0 (cut_facts last)
  counts-left dark = record {
    faults = omega arith;
    cuts =
        let once = dark.cuts in
        let none : (cut_facts first).cuts ≡ 0 = ap (λ (f : Facts). f.cuts) new_is in
        omega (arith, once, none);
    writes = let few = few-writes in omega (arith, few);
    compares = few-counts (cut_facts last).compares (writes.compares ∙ ap (λ (f : Facts). f.compares) new_is);
    matches = few-counts (cut_facts last).matches (writes.matches ∙ ap (λ (f : Facts). f.matches) new_is);
  }

  -- so power isn't lost
  stays-lit : GoesDark (cut_facts first) (cut_facts last) → ⊥
  stays-lit dark = elim dark.due [
    | inl fell ↦
        let none : (cut_facts first).due ≡ 0 = ap (λ (f : Facts). f.due) new_is in
        omega (arith, fell, none)
    | inr worn ↦ not-worn (cut_facts last) (counts-left dark) (inr worn.0)
  ]

  -- why it fails
  fails-by : (fault : StartFault) → StartStopsBy fault (cut_facts first) (cut_facts last) → IsFaultOf fault words
  fails-by BadJournal stops = subst (λ (m : List ℕ). ¬ IsSound m) (ap (λ (f : Facts). f.words) new_is) stops.0
  fails-by Damaged stops =
      subst (λ (m : List ℕ). IsSound m × ¬ IsAnyCard (words_found m)) (ap (λ (f : Facts). f.words) new_is)
      (stops.0, stops.1)
  fails-by PowerLost (inl dark) = stays-lit dark
  fails-by PowerLost (inr unlit) = true≢false (sym unlit.0 ∙ ap (λ (f : Facts). f.dark) new_is)
  fails-by Fault stops = let counted = stops.faults in omega (arith, counted)

  no-card : (fault : StartFault) → IsFaultOf fault words → HasCard words → ⊥
  no-card BadJournal bad has = bad has.journal
  no-card Damaged damaged has = damaged.1 has.words
  no-card PowerLost none has = none
  no-card Fault none has = none

  pub refused_rightly : (fault : StartFault) → StartStopsBy fault (cut_facts first) (cut_facts last)
      → IsRefusedRightly (Start fault) words
  refused_rightly fault stops =
      let by = fails-by fault stops in
      (subst IsMemory (ap (λ (f : Facts). f.words) new_is) (cut_is_board first).sized, no-card fault by, by)
