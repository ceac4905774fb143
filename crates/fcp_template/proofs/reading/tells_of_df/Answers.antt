use Rattle.std.proofs.Common.{List, rules, tests}
use Rattle.std.proofs.lemmas.Iterator.Consumers.{YieldsList-from_first}
use Rattle.std.proofs.lemmas.Iterator.Search.{any_from_yields_List}
use Rattle.card_model.specs.TemplateGrammar.{DataObject, is_df_descriptor}
use Rattle.fcp_template.proofs.reading.tells_of_df.Goals as goal

pub returns : goal.returns
returns c =
    any_from_yields_List is_df_descriptor _ _ _ c.any.ensures.ran
    (YieldsList-from_first (λ (o : DataObject). o) (λ (rest : List DataObject). rest) c.args.objects.now c.iter.ensures)
    (λ x b q k. search (rules, tests))
