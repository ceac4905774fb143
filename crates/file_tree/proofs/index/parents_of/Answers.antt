use Rattle.std.proofs.Common.{◌≡◌, ◌+◌, ◌-◌, ◌<◌, ℕ, length, drop, inl, inr, refl, sym, ◌∙◌, ap, arith, slice_index_or}
use Rattle.std.proofs.Common.{get_or-set_other}
use Rattle.std.proofs.Math.ListN.{length-set}
use Rattle.std.proofs.lemmas.Bool.Decides.{eqb_tells}
use Rattle.std.proofs.lemmas.Grind.{get_or-set_at}
use Rattle.std.proofs.lemmas.List.{get_or-replicate}
use Rattle.file_tree.specs.declared.steps.Place.{Place}
use Rattle.file_tree.specs.IndexParts.{parent_by}
use Rattle.file_tree.specs.laws.Indexes.{parent_here, parent_skip, parent_none}
use Rattle.file_tree.proofs.index.parents_of.Goals as goal

pub loop-left-init : goal.loop-left-init
loop-left-init c =
    let places = c.args.places.now in
    record {
      within = omega arith;
      long = refl;
      so_far = λ e small. get_or-replicate 256 e 0 0 small ∙ sym (parent_none places (length places) e (omega arith));
    }

pub loop-left-preserved : goal.loop-left-preserved
loop-left-preserved c =
    let places = c.args.places.now in
    let left = c.loop-left.left in
    let old = c.loop-left.parents in
    let invariant = c.loop-left.invariant in
    let some : 0 < left = omega (arith, c.loop-left-test.true) in
    let lt : left - 1 < length places = omega (arith, invariant.within, some) in
    let one : left - 1 + 1 ≡ left = omega (arith, some) in
    let entry = c.from.result in
    let is : entry ≡ (slice_index_or places (left - 1) c.index-places-left.result).entry =
    c.from.ensures ∙ c.get-in-loop-left.ensures ∙ ap (λ (p : Place). p.entry) c.index-places-left.is in
    record {
      within = omega (arith, invariant.within);
      long = length-set _ _ _ ∙ invariant.long;
      so_far = λ e small. elim (eqb_tells entry e) [
        | inl same ↦
            let fits : entry < length old = omega (arith, same.1, small, invariant.long) in
            get_or-set_at old entry e _ 0 (sym same.1) fits
            ∙ c.get.ensures
            ∙ c.parent.ensures
            ∙ ap (λ (p : Place). p.key.parent) c.index-places-left.is
            ∙ sym (parent_here places (left - 1) e c.index-places-left.result lt (sym is ∙ same.1))
        | inr other ↦
            get_or-set_other old entry e _ 0 (λ at. other.1 (sym at))
            ∙ invariant.so_far e small
            ∙ ap (λ (n : ℕ). parent_by (drop n places) e) (sym one)
            ∙ sym (parent_skip places (left - 1) e c.index-places-left.result lt (λ at. other.1 (is ∙ at)))
      ];
    }

pub returns : goal.returns
returns c = λ e small.
    let none : c.loop-left.left ≡ 0 = omega (arith, c.loop-left-test.false) in
    c.loop-left.invariant.so_far e small ∙ ap (λ (n : ℕ). parent_by (drop n c.args.places.now) e) none
