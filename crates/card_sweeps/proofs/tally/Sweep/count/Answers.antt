use Rattle.std.proofs.Common.{◌≡◌, ◌+◌, ◌++◌, ◌∷◌, [], ◌≢◌, sym, subst, refl, inl, inr, List, All}
use Rattle.bench_turns.specs.declared.turn.Item.{Item}
use Rattle.card_sweeps.specs.declared.tally.Seen.{Seen}
use Rattle.card_sweeps.specs.Tallies.{IsTally, IsAt, finding}
use Rattle.card_sweeps.proofs.TallyLemmas.{tally-push}
use Rattle.card_sweeps.proofs.tally.Sweep.count.Goals as goal

pub invariant_of-self-2 : goal.invariant_of-self-2
invariant_of-self-2 c =
    let old = c.args.self.now in
    let e : c.push.new.self.items ≡ old.seen.items ++ _ ∷ [] = c.in_ok-push.ensures.items in
    let New : List Item → Type 0 =
    λ t. All (λ s. finding s ≢ record { trace = t; free = c.args.free }) old.seen.items in
    let P : List Seen → Type 0 = λ l. IsTally (old.runs + 1) l in
    let pushed = subst P (sym e) (tally-push old.runs old.seen.items _ refl
    (record { sum = old.sum; given = old.given; different = old.different })
    (subst New c.deref.ensures.value c.in_default.ensures.new)) in
    record { sum = pushed.sum; given = pushed.given; different = pushed.different }

pub returns-in-Some-clause-counts : goal.returns-in-Some-clause-counts
returns-in-Some-clause-counts c =
    let old = c.args.self.now.seen.items in
    let At : List Item → Type 0 = λ t. IsAt c.in-Some.place (record { trace = t; free = c.args.free }) old in
    let at = subst At c.deref.ensures.value c.in-Some.ensures.same in
    inl (record { place = c.in-Some.place; at = at; set = c.count_again.ensures.again at.here at.there })

pub returns-clause-counts : goal.returns-clause-counts
returns-clause-counts c =
    let New : List Item → Type 0 = λ t. All (λ s. finding s ≢ record { trace = t; free = c.args.free })
    c.args.self.now.seen.items in
    inr (record {
      first = _;
      same = refl;
      once = refl;
      others = subst New c.deref.ensures.value c.in_default.ensures.new;
      pushed = c.in_ok-push.ensures.items;
    })
