-- What a comparison costs, as a store tells it and as a card does.
use Rattle.std.proofs.Common.{◌≡◌, ℕ, List, inl, inr, ⊎_elim}
use Rattle.undo_journal.specs.Memory.{Memory}
use Rattle.card_model.specs.Secrets.{tries_left}
use Rattle.pin_store.specs.Trials.{pin_in, FillsByMatch, IsMatch, KeepsPinLaw, PaysForCounted as PaysInStore}
use Rattle.command_base.specs.Comparing.{comparisons}
use Rattle.command_base.specs.Comparing.{CostsATry, FillsTries, Matches, PaysForOne}

-- the law of a store, told by its PIN and its counts
module _ (secret : ℕ) (shown : List ℕ) (old new : Memory) where
  matches-told : IsMatch secret shown old new
      → Matches secret shown (pin_in old secret) (comparisons old.facts) (comparisons new.facts)
  matches-told counted = record { right = counted.right; compared = counted.compared; matched = counted.matched }

  fills-told : FillsByMatch secret shown old new
      → FillsTries secret shown (pin_in old secret) (pin_in new secret) (comparisons old.facts) (comparisons new.facts)
  fills-told fills = record { match_counted = matches-told fills.match_counted; full = fills.full }

  pays-told : PaysInStore secret shown old new
      → PaysForOne secret shown (pin_in old secret) (pin_in new secret) (comparisons old.facts) (comparisons new.facts)
  pays-told pays = record {
    compared = pays.compared;
    left = pays.left;
    paid = ⊎_elim (λ fewer. inl fewer) (λ fills. inr (fills-told fills)) pays.paid;
  }

  pub costs-told : KeepsPinLaw secret shown old new
      → (tries_left secret (pin_in old secret) ≡ 0
      → (pin_in new secret ≡ pin_in old secret) × (comparisons new.facts ≡ comparisons old.facts))
      → CostsATry secret shown (pin_in old secret) (pin_in new secret) (comparisons old.facts) (comparisons new.facts)
  costs-told law blocked = record {
    tries = elim law.tries [
      | inl stay ↦ inl stay
      | inr (inl fewer) ↦ inr (inl fewer)
      | inr (inr fills) ↦
          inr (inr (fills-told fills))
    ];
    compares = ⊎_elim (λ none. inl none) (λ pays. inr (pays-told pays)) law.compares;
    matches = ⊎_elim (λ none. inl none) (λ counted. inr (matches-told counted)) law.matches;
    blocked = blocked;
    pin = elim law.pin [
      | inl stay ↦ inl stay
      | inr (inl charged) ↦ inr (inl charged)
      | inr (inr counted) ↦ inr (inr (matches-told counted))
    ];
    unblocking = law.unblocking;
    unblocking_tries = law.unblocking_tries;
  }
