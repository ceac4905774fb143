use Rattle.std.proofs.Common.{◌≡◌, ◌++◌, List, length}
use Rattle.card_model.specs.TemplateGrammar.{DataObject, objects_text}
use Rattle.fcp_template.proofs.object.Objects.parse.Given as goal

abbrev pub invariant-loop-rest : goal.invariant-loop-rest
invariant-loop-rest l = (front : List DataObject) × (l.bytes ≡ objects_text front ++ l.rest)

abbrev pub decreases-loop-rest : goal.decreases-loop-rest
decreases-loop-rest l = length l.rest
