-- Findings counted again, and found for the first time.
use Rattle.std.specs.Prelude.{◌≡◌, ◌≢◌, ◌<◌, ◌≤◌, ◌+◌, ℕ, List, [], ◌∷◌, ◌++◌, length, All, AllPairs, slice_set}
use Rattle.std.proofs.Common.{zero, suc, refl, sym, ◌∙◌, ap, subst, get_or, arith}
use Rattle.std.proofs.lemmas.List.{map-append, append-nil, append_assoc}
use Rattle.std.proofs.lemmas.List.Elements.{All-append, All-map, All-push, All-set}
use Rattle.std.proofs.lemmas.List.Quantifiers.{all_pairs_push}
use Rattle.std.proofs.lemmas.List.Sums.{sum_by-append, sum_by-cons, sum_by-set}
use Rattle.card_sweeps.specs.declared.tally.Seen.{Seen}
use Rattle.card_sweeps.specs.Tallies.{Finding, finding, findings, times_seen, Adds, IsTally}

-- a result that is put in the place of the same one
pub findings-set : (seen : List Seen) (i : ℕ) (s d : Seen) → finding s ≡ finding (get_or seen i d)
    → findings (slice_set seen i s) ≡ findings seen
findings-set [] i s d same = refl
findings-set (x ∷ seen) zero s d same = ap (λ (f : Finding). f ∷ findings seen) same
findings-set (x ∷ seen) (suc i) s d same = ap (λ (fs : List Finding). finding x ∷ fs) (findings-set seen i s d same)

-- nothing is added
pub adds-none : (Is : Finding → Type 0) (old : List Finding) → Adds Is old old
adds-none Is old = record { more = []; all = sym (append-nil old); each = λ k d lt. absurd (omega arith) }

-- some, and then more
pub adds-on : (Is : Finding → Type 0) (old between new : List Finding) → Adds Is old between
    → Adds Is between new → Adds Is old new
adds-on Is old between new some more = record {
  more = some.more ++ more.more;
  all = more.all ∙ ap (λ (l : List Finding). l ++ more.more) some.all ∙ append_assoc old some.more more.more;
  each = All-append Is some.more more.more some.each more.each;
}

-- what they are, said otherwise
pub adds-weaker : (Is Also : Finding → Type 0) (old new : List Finding) → ((f : Finding) → Is f → Also f)
    → Adds Is old new → Adds Also old new
adds-weaker Is Also old new weaker some = record {
  more = some.more;
  all = some.all;
  each = λ k d lt. weaker (get_or some.more k d) (some.each k d lt);
}

-- a result that is new
pub tally-push : (runs : ℕ) (seen : List Seen) (s : Seen) → s.count ≡ 1 → IsTally runs seen
    → All (λ x. finding x ≢ finding s) seen → IsTally (runs + 1) (seen ++ s ∷ [])
tally-push runs seen s once tally new =
    let others : All (λ f. f ≢ finding s) (findings seen) = All-map (λ f. f ≢ finding s) finding seen new in
    let apart : AllPairs (λ a b. a ≢ b) (findings seen ++ finding s ∷ []) =
    all_pairs_push (λ a b. a ≢ b) (findings seen) (finding s) tally.different (λ k d lt. others k d lt) in
    let P : List Finding → Type 0 = λ l. AllPairs (λ a b. a ≢ b) l in
    record {
      sum = omega (arith, sum_by-append times_seen seen (s ∷ []), sum_by-cons times_seen s [], once, tally.sum);
      given = All-push (λ x. 1 ≤ x.count) seen s tally.given (omega (arith, once));
      different = subst P (sym (map-append finding seen (s ∷ []))) apart;
    }

-- a result that is counted again
pub tally-again : (runs : ℕ) (seen : List Seen) (i : ℕ) (s d : Seen) → i < length seen
    → finding s ≡ finding (get_or seen i d) → s.count ≡ (get_or seen i d).count + 1 → IsTally runs seen
    → IsTally (runs + 1) (slice_set seen i s)
tally-again runs seen i s d lt same more tally =
    let P : List Finding → Type 0 = λ l. AllPairs (λ a b. a ≢ b) l in
    record {
      sum = omega (arith, sum_by-set times_seen seen i s d lt, more, tally.sum);
      given = All-set (λ x. 1 ≤ x.count) seen i s (omega (arith, more)) tally.given;
      different = subst P (sym (findings-set seen i s d same)) tally.different;
    }
