use Rattle.std.proofs.Common.{List, rules, tests, not}
use Rattle.std.proofs.lemmas.Iterator.Consumers.{YieldsList-from_first}
use Rattle.std.proofs.lemmas.Iterator.Search.{any_from_yields_List}
use Rattle.card_model.specs.TemplateGrammar.{DataObject, is_tag}
use Rattle.fcp_template.proofs.reading.has_unknown.Goals as goal

pub returns : goal.returns
returns c =
    any_from_yields_List (λ (o : DataObject). not (is_tag o.tag)) _ _ _ c.any.ensures.ran
    (YieldsList-from_first (λ (o : DataObject). o) (λ (rest : List DataObject). rest) c.args.objects.now c.iter.ensures)
    (λ x b q k. search (rules, tests))
