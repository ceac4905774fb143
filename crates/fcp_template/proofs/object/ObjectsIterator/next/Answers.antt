use Rattle.std.proofs.Common.{◌≡◌, [], ◌∷◌, List, length, sym, ◌∙◌, ap, rules}
use Rattle.card_model.specs.TemplateGrammar.{DataObject}
use Rattle.fcp_template.specs.ObjectParts.{objects_of}
use Rattle.fcp_template.proofs.FirstObjects.{first_of, none_of}
use Rattle.fcp_template.proofs.object.ObjectsIterator.next.Goals as goal

pub returns-in_err-object-clause-steps : goal.returns-in_err-object-clause-steps
returns-in_err-object-clause-steps c =
    let none : c.args.self.now ≡ [] =
    sym c.self.view_is ∙ none_of c.self.inside.bytes.now c.self.invariant c.in_err-object.ensures.none in
    rw c.from_residual.ensures (none, none)

pub invariant_of-self : goal.invariant_of-self
invariant_of-self c =
    (first_of c.self.inside.bytes.now c.in_ok-object.rest.now c.in_ok-object.object c.self.invariant
    c.in_ok-object.ensures.found).1

pub returns-clause-steps : goal.returns-clause-steps
returns-clause-steps c =
    sym c.self.view_is ∙ (first_of c.self.inside.bytes.now c.in_ok-object.rest.now c.in_ok-object.object
    c.self.invariant c.in_ok-object.ensures.found).0

pub returns-clause-goes : goal.returns-clause-goes
returns-clause-goes c =
    let first : c.args.self.now ≡ c.in_ok-object.object ∷ objects_of c.in_ok-object.rest.now =
    sym c.self.view_is ∙ (first_of c.self.inside.bytes.now c.in_ok-object.rest.now c.in_ok-object.object
    c.self.invariant c.in_ok-object.ensures.found).0 in
    let shorter = ap (λ (os : List DataObject). length os) first in
    search rules
