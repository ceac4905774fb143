-- The tally of a sweep, by its end.
use Rattle.std.specs.Prelude.{◌≡◌, ℕ, List, [], ◌++◌, Result, Ok, Err, IfOk, All}
use Rattle.std.proofs.Common.{◌∙◌, ap, refl, subst, sym}
use Rattle.command_base.specs.Finding.{HasCard}
use Rattle.card_sweeps.specs.declared.sweeping.Halt.{Halt}
use Rattle.card_sweeps.specs.declared.sweeping.Halt.TheVariants as halt
use Rattle.card_sweeps.specs.declared.tally.Seen.{Seen}
use Rattle.card_sweeps.specs.declared.tally.Sweep.{Sweep}
use Rattle.card_sweeps.specs.declared.tally.SweepEnd.{SweepEnd}
use Rattle.card_sweeps.specs.declared.tally.SweepEnd.TheVariants.{Full, Differs}
use Rattle.card_sweeps.specs.PlanParts.{EndsBy, Sweeps}
use Rattle.card_sweeps.specs.Tallies.{Finding, findings, Adds, CountsRuns, CountsToEnd}

-- what was added to nothing
all-added : (Is : Finding → Type 0) (old new : List Seen) → old ≡ [] → Adds Is (findings old) (findings new)
    → All Is (findings new)
all-added Is old new none added =
    subst (All Is) (sym (added.all ∙ ap (λ (l : List Seen). findings l ++ added.more) none)) added.each

module _ {T : Type 0} (words : List ℕ) (Is : Finding → Type 0) (Are : List Finding → Type 0)
    (First : SweepEnd → List Finding → Type 0) (old new : Sweep) (none : old.seen.items ≡ []) where
  -- by what the counting came to
  to-end : (ended : Result T Halt) (end : SweepEnd) → Sweeps words Is (λ _. Are) First old new ended → EndsBy ended end
      → HasCard words → CountsToEnd Are First end new.runs new.seen.items
  to-end (Ok x) end swept is card =
      subst (λ (e : SweepEnd). CountsToEnd Are First e new.runs new.seen.items) (sym is)
      (subst (λ (l : List Seen). CountsRuns Are l new.seen.items) none (swept.complete card))
  to-end (Err halt.Memory) end swept is card = absurd is
  to-end (Err halt.Full) end swept is card =
      subst (λ (e : SweepEnd). CountsToEnd Are First e new.runs new.seen.items) (sym is) (
        (swept.early.full refl).0,
        subst (λ (l : List Seen). CountsRuns (First Full) l new.seen.items) none ((swept.early.full refl).1 card),
      )
  to-end (Err halt.Differs) end swept is card =
      subst (λ (e : SweepEnd). CountsToEnd Are First e new.runs new.seen.items) (sym is)
      (subst (λ (l : List Seen). CountsRuns (First Differs) l new.seen.items) none (swept.early.differs refl card))

  -- the tally that is returned
  pub counts-ended : {E : Type 0} (ended : Result T Halt) (r : Result Sweep E)
      → Sweeps words Is (λ _. Are) First old new ended
      → IfOk r (λ s. s.runs ≡ new.runs) → IfOk r (λ s. s.seen.items ≡ new.seen.items) → IfOk r (λ s. EndsBy ended s.end)
      → IfOk r (λ s. HasCard words → CountsToEnd Are First s.end s.runs s.seen.items)
  unfolding to-end
  counts-ended ended (Ok s) swept runs seen is = λ card.
      subst (λ (n : ℕ). CountsToEnd Are First s.end n s.seen.items) (sym runs)
      (subst (λ (l : List Seen). CountsToEnd Are First s.end new.runs l) (sym seen) (to-end ended s.end swept is card))
  counts-ended ended (Err e) swept runs seen is = tt

  -- its findings
  pub given-ended : {E : Type 0} (ended : Result T Halt) (r : Result Sweep E)
      → Sweeps words Is (λ _. Are) First old new ended
      → IfOk r (λ s. s.seen.items ≡ new.seen.items) → IfOk r (λ s. HasCard words → All Is (findings s.seen.items))
  given-ended ended (Ok s) swept seen = λ card.
      subst (λ (l : List Seen). All Is (findings l)) (sym seen)
      (all-added Is old.seen.items new.seen.items none (swept.given card))
  given-ended ended (Err e) swept seen = tt
