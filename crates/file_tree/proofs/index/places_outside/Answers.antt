use Rattle.std.proofs.Common.{◌≡◌, ◌≤◌, ◌+◌, ◌++◌, ℕ, Bool, true, false, not, cond, List, [], ◌∷◌, length, take, filter}
use Rattle.std.proofs.Common.{slice_index, slice_index_or, sym, ◌∙◌, ap, arith, rules, lit<, append-nil}
use Rattle.std.proofs.Math.Seq.{take-length}
use Rattle.std.proofs.lemmas.List.Elements.{filter_more}
use Rattle.file_tree.specs.declared.steps.Place.{Place}
use Rattle.file_tree.specs.IndexParts.{is_outside, parent_by}
use Rattle.file_tree.specs.Subtrees.{leads}
use Rattle.file_tree.proofs.index.places_outside.Goals as goal
use Rattle.file_tree.proofs.index.places_outside.Goals.{then-not-is_within, else-not-is_within}

pub loop-place-init : goal.loop-place-init
loop-place-init c =
    let none = ap (λ (ps : List Place). length ps) c.new-outside.ensures in
    record { size = omega (arith, none); so_far = c.new-outside.ensures }

pub push-requires : goal.push-requires
push-requires c =
    let few = c.requires in
    let size = c.loop-place.invariant.size in
    let lt = c.loop-place-test.true in
    (lit< tt, omega (arith, few, size, lt))

pub loop-place-preserved : goal.loop-place-preserved
loop-place-preserved c =
    let places = c.args.places.now in
    let k = c.loop-place.place-index in
    let keep = is_outside places c.args.top in
    let place = slice_index_or places k c.place-item.result in
    let before = c.loop-place.outside.items in
    let size = c.loop-place.invariant.size in
    let so_far = c.loop-place.invariant.so_far in
    let more = filter_more keep places k c.place-item.result c.loop-place-test.true in
    let told : List Place → Type 0 = λ ps. (length ps ≤ k + 1) × (ps ≡ filter keep (take (k + 1) places)) in
    let within : c.is_within.result ≡ leads (parent_by places) 7 c.args.top place.entry =
    c.is_within.ensures (parent_by places) (λ e told small answers.
    let read : told ≡ slice_index c.parents_of-parents.result e = search rules in
    read ∙ c.parents_of-parents.ensures e small)
    ∙ ap (λ (p : Place). leads (parent_by places) 7 c.args.top p.entry) c.place-item.is in
    let next : told c.if-not-is_within.outside.items = elim c.if-not-is_within.branch [
      | then-not-is_within w ↦
          let passes : keep place ≡ true = ap not (sym within ∙ w.if-not-is_within.true) in
          let items : c.if-not-is_within.outside.items ≡ before ++ place ∷ [] = (λ j. (w.outside-is j).items)
          ∙ w.push.ensures.items
          ∙ ap (λ (p : Place). before ++ p ∷ []) c.place-item.is in
          let long : length c.if-not-is_within.outside.items ≡ length before + 1 = (λ j. length (w.outside-is j).items)
          ∙ w.push.ensures.len in (
            omega (arith, long, size),
            items
                ∙ ap (λ (front : List Place). front ++ place ∷ []) so_far
                ∙ sym (more ∙ ap (λ (b : Bool). filter keep (take k places) ++ cond b (place ∷ []) []) passes),
          )
      | else-not-is_within w ↦
          let fails : keep place ≡ false = ap not (sym within ∙ w.if-not-is_within.false) in
          let items : c.if-not-is_within.outside.items ≡ before = (λ j. (w.outside-is j).items) in
          let long = ap (λ (ps : List Place). length ps) items in (
            omega (arith, long, size),
            items
                ∙ so_far
                ∙ sym (more ∙ ap (λ (b : Bool). filter keep (take k places) ++ cond b (place ∷ []) []) fails
                ∙ append-nil (filter keep (take k places))),
          )
    ] in
    record { size = next.0; so_far = next.1 }

pub returns : goal.returns
returns c =
    let all : c.loop-place.place-index ≡ length c.args.places.now =
    (let end = c.loop-place.auto.place-index-end in let test = c.loop-place-test.false in omega (arith, end, test)) in
    c.loop-place.invariant.so_far
    ∙ ap (λ (n : ℕ). filter (is_outside c.args.places.now c.args.top) (take n c.args.places.now)) all
    ∙ ap (filter (is_outside c.args.places.now c.args.top)) (take-length c.args.places.now)
