use Rattle.std.proofs.Common.{◌≡◌, ◌<◌, List, [], length, refl, sym, ◌∙◌, arith}
use Rattle.std.proofs.lemmas.Bool.Decides.{nat_tests}
use Rattle.card_model.specs.TemplateGrammar.{DataObject, objects_text}
use Rattle.fcp_template.proofs.FirstObjects.{one_more, all_objects, are_objects}
use Rattle.fcp_template.proofs.Splitting.{no_objects}
use Rattle.fcp_template.proofs.object.Objects.parse.Goals as goal

pub loop-rest-init : goal.loop-rest-init
loop-rest-init c = ([], refl)

pub loop-rest-preserved : goal.loop-rest-preserved
loop-rest-preserved c = one_more c.loop-rest.invariant.0 _ _ _ _ c.loop-rest.invariant.1 c.in_ok-after.ensures.found

pub returns-in_err-after-clause-none : goal.returns-in_err-after-clause-none
returns-in_err-after-clause-none c =
    let test = c.loop-rest-test.true in
    let empty = c.is_empty.ensures in
    let some : 0 < length c.loop-rest.rest.now = grind (arith, nat_tests, test, empty) in
    let none : (os : List DataObject) → c.args.bytes.now ≡ objects_text os → ⊥ =
    λ os e. no_objects c.loop-rest.invariant.0 os c.loop-rest.rest.now some c.in_err-after.ensures.none
    (sym c.loop-rest.invariant.1 ∙ e) in
    rw c.from_residual.ensures none

pub invariant_of-result : goal.invariant_of-result
invariant_of-result c =
    let test = c.loop-rest-test.false in
    let empty = c.is_empty.ensures in
    let none : length c.loop-rest.rest.now ≡ 0 = grind (arith, nat_tests, test, empty) in
    are_objects c.args.bytes.now c.loop-rest.invariant.0
    (all_objects c.loop-rest.invariant.0 c.args.bytes.now c.loop-rest.rest.now c.loop-rest.invariant.1 none)

pub returns-clause-filled : goal.returns-clause-filled
returns-clause-filled c =
    let test = c.loop-rest-test.false in
    let empty = c.is_empty.ensures in
    let none : length c.loop-rest.rest.now ≡ 0 = grind (arith, nat_tests, test, empty) in
    are_objects c.args.bytes.now c.loop-rest.invariant.0
    (all_objects c.loop-rest.invariant.0 c.args.bytes.now c.loop-rest.rest.now c.loop-rest.invariant.1 none)
