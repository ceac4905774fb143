use Rattle.std.proofs.Common.{◌≡◌, [], ◌∷◌, List, ap, sym, ◌∙◌}
use Rattle.card_model.specs.TemplateGrammar.{DataObject}
use Rattle.fcp_template.proofs.Repeats.{repeats, repeats-nil, repeats_on, repeats_here, twice_is}
use Rattle.fcp_template.proofs.reading.is_twice.Goals as goal

pub loop-object-init : goal.loop-object-init
loop-object-init c = ap (λ (os : List DataObject). repeats os) (sym c.iter-rest.ensures)

pub loop-object-preserved : goal.loop-object-preserved
loop-object-preserved c =
    let step : c.loop-object.rest ≡ c.in-Some.object ∷ c.next.new.self = c.in-Some.ensures.steps in
    c.loop-object.invariant ∙ ap (λ (os : List DataObject). repeats os) step
    ∙ repeats_on c.in-Some.object c.next.new.self (sym c.comes_again.ensures ∙ c.if-comes_again.false)

pub returns-then-comes_again : goal.returns-then-comes_again
returns-then-comes_again c =
    let step : c.loop-object.rest ≡ c.in-Some.object ∷ c.next.new.self = c.in-Some.ensures.steps in
    sym (twice_is c.args.objects.now ∙ c.loop-object.invariant ∙ ap (λ (os : List DataObject). repeats os) step
    ∙ repeats_here c.in-Some.object c.next.new.self (sym c.comes_again.ensures ∙ c.if-comes_again.true))

pub returns : goal.returns
returns c =
    let none : c.loop-object.rest ≡ [] = c.in_default.ensures.steps.0 in
    sym (twice_is c.args.objects.now ∙ c.loop-object.invariant ∙ ap (λ (os : List DataObject). repeats os) none
    ∙ repeats-nil)
