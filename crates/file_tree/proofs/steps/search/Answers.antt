use Rattle.std.proofs.Common.{◌≡◌, ◌<◌, ◌≤◌, ◌+◌, ◌-◌, ◌/◌, ℕ, length, sym, subst, arith, ◌∙◌}
use Rattle.file_tree.specs.IndexParts.{AreBehind, halved}
use Rattle.file_tree.specs.laws.Indexes.{same_key, search_up, search_down, halved-few, halved-half}
use Rattle.file_tree.proofs.steps.search.Goals as goal

pub loop-low-init : goal.loop-low-init
unfolding halved
loop-low-init c = record {
  ordered = omega arith;
  within = omega arith;
  few = (let fresh = c.new-steps.ensures in omega (arith, fresh));
  left = (let few = c.requires.few in subst (λ (n : ℕ). length c.args.places.now - 0 ≤ halved n)
      (sym c.new-steps.ensures) (omega (arith, few)));
  before = λ up k d lt. absurd (omega (arith, lt));
  behind = λ up k d from below. absurd (omega (arith, from, below));
}

pub offset_bounds-places-middle : goal.offset_bounds-places-middle
offset_bounds-places-middle c =
    let few = c.requires.few in
    let within = c.loop-low.invariant.within in
    let lt = c.loop-low-test.true in
    omega (arith, few, within, lt)

pub bounds-places-middle : goal.bounds-places-middle
bounds-places-middle c =
    let within = c.loop-low.invariant.within in
    let lt = c.loop-low-test.true in
    omega (arith, within, lt)

pub compare-requires : goal.compare-requires
compare-requires c =
    let left = c.loop-low.invariant.left in
    let lt = c.loop-low-test.true in
    let few = halved-few c.loop-low.steps (omega (arith, left, lt)) in
    omega (arith, few)

pub loop-low-preserved-in-Less : goal.loop-low-preserved-in-Less
loop-low-preserved-in-Less c =
    let low = c.loop-low.low in
    let high = c.loop-low.high in
    let within = c.loop-low.invariant.within in
    let left = c.loop-low.invariant.left in
    let lt = c.loop-low-test.true in
    let middle = low + (high - low) / 2 in
    let inside : middle < length c.args.places.now = omega (arith, within, lt) in
    let half : high - (middle + 1) ≤ halved c.loop-low.steps / 2 = omega (arith, left) in
    let few = halved-few c.loop-low.steps (omega (arith, left, lt)) in
    let more = c.compare.ensures.counted in
    record {
      ordered = omega (arith, lt);
      within = within;
      few = omega (arith, few, more);
      left = subst (λ (n : ℕ). high - (middle + 1) ≤ halved n) (sym more)
          (halved-half c.loop-low.steps (high - (middle + 1)) half);
      before = λ up. search_up c.args.places.now c.args.key.now middle inside up c.index-places-middle.result
          (c.in-Less.ensures.order);
      behind = c.loop-low.invariant.behind;
    }

pub returns-in-Equal-clause-within : goal.returns-in-Equal-clause-within
returns-in-Equal-clause-within c =
    let within = c.loop-low.invariant.within in
    let lt = c.loop-low-test.true in
    omega (arith, within, lt)

pub returns-in-Equal-clause-found : goal.returns-in-Equal-clause-found
returns-in-Equal-clause-found c = λ up d.
    let within = c.loop-low.invariant.within in
    let lt = c.loop-low-test.true in
    let middle = c.loop-low.low + (c.loop-low.high - c.loop-low.low) / 2 in
    same_key c.args.places.now middle d c.index-places-middle.result (omega (arith, within, lt))
    ∙ c.in-Equal.ensures.order

pub returns-in-Equal-clause-steps : goal.returns-in-Equal-clause-steps
returns-in-Equal-clause-steps c =
    let left = c.loop-low.invariant.left in
    let lt = c.loop-low-test.true in
    let few = halved-few c.loop-low.steps (omega (arith, left, lt)) in
    let more = c.compare.ensures.counted in
    omega (arith, few, more)

pub loop-low-preserved : goal.loop-low-preserved
loop-low-preserved c =
    let low = c.loop-low.low in
    let high = c.loop-low.high in
    let within = c.loop-low.invariant.within in
    let left = c.loop-low.invariant.left in
    let lt = c.loop-low-test.true in
    let middle = low + (high - low) / 2 in
    let half : middle - low ≤ halved c.loop-low.steps / 2 = omega (arith, left) in
    let inside : middle < length c.args.places.now = omega (arith, within, lt) in
    let few = halved-few c.loop-low.steps (omega (arith, left, lt)) in
    let more = c.compare.ensures.counted in
    record {
      ordered = omega arith;
      within = omega (arith, within, lt);
      few = omega (arith, few, more);
      left = subst (λ (n : ℕ). middle - low ≤ halved n) (sym more) (halved-half c.loop-low.steps (middle - low) half);
      before = c.loop-low.invariant.before;
      behind = λ up. search_down c.args.places.now c.args.key.now middle inside up c.index-places-middle.result
          (c.in-Greater.ensures.order);
    }

pub returns-clause-within : goal.returns-clause-within
returns-clause-within c =
    let ordered = c.loop-low.invariant.ordered in
    let within = c.loop-low.invariant.within in
    omega (arith, ordered, within)

pub returns-clause-found : goal.returns-clause-found
returns-clause-found c = λ up.
    let ordered = c.loop-low.invariant.ordered in
    let end = c.loop-low-test.false in
    let same : c.loop-low.high ≡ c.loop-low.low = omega (arith, ordered, end) in (
      c.loop-low.invariant.before up,
      subst (AreBehind c.args.places.now c.args.key.now) same
          (c.loop-low.invariant.behind up),
    )

pub returns-clause-steps : goal.returns-clause-steps
returns-clause-steps c = let few = c.loop-low.invariant.few in omega (arith, few)
