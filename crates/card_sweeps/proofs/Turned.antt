-- Turns that are steps, one more at a time.
use Rattle.std.proofs.Common.{◌≡◌, ◌<◌, ◌+◌, ℕ, List, [], ◌∷◌, ◌++◌, length, take, get_or, sym, subst}
use Rattle.std.proofs.lemmas.List.{take_more}
use Rattle.bench_turns.specs.declared.turn.Turn.{Turn}
use Rattle.card_sweeps.specs.declared.steps.Step.{Step}
use Rattle.card_sweeps.specs.Turning.{AreTurns, IsTurn}

-- none yet
pub are-turns-none : AreTurns [] []
unfolding AreTurns
are-turns-none = tt

-- one more at the end
pub are-turns-push : (ss : List Step) (ts : List Turn) (s : Step) (t : Turn) → AreTurns ss ts → IsTurn s t
    → AreTurns (ss ++ s ∷ []) (ts ++ t ∷ [])
unfolding AreTurns
are-turns-push [] [] s t none is = (is, tt)
are-turns-push [] (u ∷ ts) s t none is = absurd none
are-turns-push (r ∷ ss) [] s t none is = absurd none
are-turns-push (r ∷ ss) (u ∷ ts) s t some is = (some.0, are-turns-push ss ts s t some.1 is)

-- the next step of a list
pub are-turns-next : (steps : List Step) (turns : List Turn) (i : ℕ) (d : Step) (t : Turn) → i < length steps
    → AreTurns (take i steps) turns → IsTurn (get_or steps i d) t → AreTurns (take (i + 1) steps) (turns ++ t ∷ [])
are-turns-next steps turns i d t within some is =
    subst (λ (ss : List Step). AreTurns ss (turns ++ t ∷ [])) (sym (take_more steps i d within))
    (are-turns-push (take i steps) turns (get_or steps i d) t some is)

-- the same steps and turns, said otherwise
pub are-turns-same : (ss ss' : List Step) (ts ts' : List Turn) → ss ≡ ss' → ts' ≡ ts → AreTurns ss ts → AreTurns ss' ts'
are-turns-same ss ss' ts ts' steps turns are =
    subst (λ (l : List Step). AreTurns l ts') steps (subst (AreTurns ss) (sym turns) are)
