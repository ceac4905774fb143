use Rattle.std.proofs.Common.{◌∙◌, sym, refl, ap, arith}
use Rattle.std.proofs.lemmas.Bool.{eqb-true, eqb-false}
use Rattle.file_tree.specs.declared.steps.Place.{Place}
use Rattle.file_tree.specs.laws.Indexes.{parent_here, parent_skip, parent_none}
use Rattle.file_tree.proofs.index.parent_of.Goals as goal

pub loop-place-init : goal.loop-place-init
loop-place-init c = record { rest = refl }

pub returns-then-eq : goal.returns-then-eq
returns-then-eq c =
    let item = c.place-item.result in
    let same = eqb-true item.entry c.args.entry (sym c.eq.ensures ∙ c.if-eq.true) in
    c.parent.ensures
    ∙ ap (λ (p : Place). p.key.parent) c.place-item.is
    ∙ sym (parent_here c.args.places.now c.loop-place.place-index c.args.entry item
    c.loop-place-test.true (ap (λ (p : Place). p.entry) (sym c.place-item.is) ∙ same))
    ∙ sym c.loop-place.invariant.rest

pub loop-place-preserved : goal.loop-place-preserved
loop-place-preserved c =
    let item = c.place-item.result in
    let other = eqb-false item.entry c.args.entry (sym c.eq.ensures ∙ c.if-eq.false) in
    record {
      rest = c.loop-place.invariant.rest
          ∙ parent_skip c.args.places.now c.loop-place.place-index c.args.entry item
          c.loop-place-test.true (λ at. other (ap (λ (p : Place). p.entry) c.place-item.is ∙ at));
    }

pub returns : goal.returns
returns c =
    let end = c.loop-place-test.false in
    c.master.ensures
    ∙ sym (c.loop-place.invariant.rest
    ∙ parent_none c.args.places.now c.loop-place.place-index c.args.entry (omega (arith, end)))
