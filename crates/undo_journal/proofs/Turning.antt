-- A turn of the loop that writes the words of sets: their first run is written, and the others are left.
use Rattle.std.proofs.Common.{◌≡◌, ◌<◌, ◌+◌, ℕ, List, length, drop, get_or, sym, ◌∙◌, ap, ap₂, subst, arith}
use Rattle.nvm_board.specs.History.{written}
use Rattle.nvm_board.specs.Torn.{Torn}
use Rattle.nvm_board.specs.laws.Torn.{Torn-all}
use Rattle.undo_journal.specs.declared.batch.Waiting.{Waiting}
use Rattle.undo_journal.specs.Undo.{Pair, pairs}
use Rattle.undo_journal.specs.Batches.{overlay, AreSets}
use Rattle.undo_journal.specs.JournalParts.{first_words, AllNamed}
use Rattle.undo_journal.proofs.RunLaws.{IsSaved, turn-saved, turn-written, named-drop}
use Rattle.undo_journal.proofs.Saving.{SameUndo, saved-torn, same-then}

module _ (first now : List ℕ) (ps : List Waiting) (d : Waiting) (run : List ℕ) (a : ℕ) (some : 0 < length ps)
    (are : AreSets (length first) 0 ps) (named : AllNamed (pairs now) ps) (same : SameUndo first now)
    (is : run ≡ first_words ps) (at : a ≡ (get_or ps 0 d).at) where
  turn-step : (n : List ℕ) → Torn now a run n → SameUndo now n
  turn-step n torn =
      let there : AreSets (length now) 0 ps = subst (λ (n : ℕ). AreSets n 0 ps) (sym same.size) are in
      saved-torn now run n a same.sound (λ k lt.
      let low : k < length (first_words ps) = omega (arith, lt, ap (λ (l : List ℕ). length l) is) in
      let family : ℕ → Type 0 = λ x. IsSaved now (pairs now) (x + k) in
      subst family (sym at) (turn-saved ps d 0 now (pairs now) some there named k low)) torn

  pub turn-torn : (n : List ℕ) → Torn now a run n → SameUndo first n
  turn-torn n torn = same-then first now n same (turn-step n torn)

  -- what is left
  module _ (n : List ℕ) (done : n ≡ written now a run) (left : List Waiting)
      (after : left ≡ drop (length (first_words ps)) ps) where
    whole : Torn now a run n
    whole = let family : List ℕ → Type 0 = λ l. Torn now a run l in subst family (sym done) (Torn-all now run a)

    pub turn-same : SameUndo first n
    turn-same = turn-torn n whole

    pub turn-named : AllNamed (pairs n) left
    turn-named =
        let there : AllNamed (pairs now) left =
        subst (λ (l : List Waiting). AllNamed (pairs now) l) (sym after)
        (named-drop (length (first_words ps)) ps (pairs now) named) in
        subst (λ (qs : List Pair). AllNamed qs left) (sym (turn-step n whole).journals) there

    pub turn-left : overlay left n ≡ overlay ps now
    turn-left =
        ap₂ (λ (l : List Waiting) (m : List ℕ). overlay l m) after done
        ∙ ap₂ (λ (b : ℕ) (ws : List ℕ). overlay (drop (length (first_words ps)) ps) (written now b ws)) at is
        ∙ turn-written ps d now some
