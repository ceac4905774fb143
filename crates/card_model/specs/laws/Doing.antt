-- A request that has one commit, at whatever exit: the card before it, or the one after it.
use Rattle.std.proofs.Common.{◌≡◌, ◌⊎◌, List, [], ◌∷◌, length, Contains, None, sym, ◌∙◌, ap, subst, arith, ⊎_elim}
use Rattle.card_model.specs.Requests.{Request}
use Rattle.card_model.specs.Cards.{Card}
use Rattle.card_model.specs.Behaviours.{refused_by}
use Rattle.card_model.specs.Steps.{IsDoing, commits, refusals_of}
use Rattle.card_model.specs.Sessions.{Session}

pub doing-one : (c : Card) (s : Session) (request : Request) (after d : Card)
    → refused_by (refusals_of c s request) ≡ None → commits c s request ≡ after ∷ [] → (d ≡ c) ⊎ (d ≡ after)
    → IsDoing c s request d
doing-one c s request after d none is left = record {
  unrefused = none;
  lasts = λ nothing.
      let one : length (after ∷ []) ≡ 0 = ap (λ (cards : List Card). length cards) (sym is ∙ nothing) in
      let never : ⊥ = omega (arith, one) in never;
  card = subst (λ (cards : List Card). Contains (c ∷ cards) d) (sym is)
      (⊎_elim (λ (before : d ≡ c). (0, omega arith, sym before))
      (λ (done : d ≡ after). (1, omega arith, sym done)) left);
}
