use Rattle.std.proofs.Common.{◌≡◌, ◌+◌, ◌∙◌, List, ap}
use Rattle.std.specs.List.{slice_set}
use Rattle.std.proofs.lemmas.Option.{get_or_from_slice_get}
use Rattle.card_sweeps.specs.declared.tally.Seen.{Seen}
use Rattle.card_sweeps.specs.Tallies.{finding, times_seen}
use Rattle.card_sweeps.proofs.TallyLemmas.{findings-set, tally-again}
use Rattle.card_sweeps.proofs.tally.Sweep.count_again.Goals as goal

pub returns-clause-same : goal.returns-clause-same
returns-clause-same c = findings-set _ _ _ c.index_mut.result.now (ap finding c.index_mut.ensures.value)

pub invariant_of-self : goal.invariant_of-self
invariant_of-self c =
    let old = c.args.self.now in
    let again = tally-again old.runs old.seen.items c.args.place _ c.index_mut.result.now c.requires.place
    (ap finding c.index_mut.ensures.value) (ap (λ n. n + 1) (ap times_seen c.index_mut.ensures.value))
    (record { sum = old.sum; given = old.given; different = old.different }) in
    record { sum = again.sum; given = again.given; different = again.different }

pub returns-clause-again : goal.returns-clause-again
returns-clause-again c = λ s there.
    let items = c.args.self.now.seen.items in
    let Counted : Seen → List Seen = λ x. slice_set items c.args.place (record x { count = x.count + 1 }) in
    let same : c.index_mut.result.now ≡ s = c.index_mut.ensures.value
    ∙ get_or_from_slice_get items c.args.place s _ there in
    ap Counted same
