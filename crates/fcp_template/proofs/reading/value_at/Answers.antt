use Rattle.std.proofs.Common.{◌≡◌, ◌==◌, List, ℕ, Option, Some, option_map, sym, ap, ◌∙◌, rules, tests}
use Rattle.std.specs.Prelude.{find}
use Rattle.std.proofs.lemmas.Iterator.Consumers.{YieldsList-from_first}
use Rattle.std.proofs.lemmas.Iterator.Search.{find_from_yields_List}
use Rattle.card_model.specs.TemplateGrammar.{DataObject}
use Rattle.fcp_template.specs.TagParts.{tag_byte}
use Rattle.fcp_template.proofs.reading.value_at.Goals as goal

pub returns-in-Some : goal.returns-in-Some
returns-in-Some c =
    let found : option_map (λ (o : DataObject). o) c.find.result ≡ find (λ (o : DataObject). o.tag
    == tag_byte c.args.tag) c.args.objects.now =
    find_from_yields_List (λ (o : DataObject). o.tag == tag_byte c.args.tag) _ _ _ c.find.ensures.ran
    (YieldsList-from_first (λ (o : DataObject). o) (λ (rest : List DataObject). rest) c.args.objects.now c.iter.ensures)
    (λ x b q k. search (rules, tests)) in
    ap (λ (bytes : List ℕ). Some bytes) c.value.ensures
    ∙ ap (λ (o : Option DataObject). option_map (λ (p : DataObject). p.value)
    (option_map (λ (p : DataObject). p) o)) (sym c.in-Some.is)
    ∙ ap (λ (o : Option DataObject). option_map (λ (p : DataObject). p.value) o) found

pub returns-in-None : goal.returns-in-None
returns-in-None c =
    let found : option_map (λ (o : DataObject). o) c.find.result ≡ find (λ (o : DataObject). o.tag
    == tag_byte c.args.tag) c.args.objects.now =
    find_from_yields_List (λ (o : DataObject). o.tag == tag_byte c.args.tag) _ _ _ c.find.ensures.ran
    (YieldsList-from_first (λ (o : DataObject). o) (λ (rest : List DataObject). rest) c.args.objects.now c.iter.ensures)
    (λ x b q k. search (rules, tests)) in
    ap (λ (o : Option DataObject). option_map (λ (p : DataObject). p.value)
    (option_map (λ (p : DataObject). p) o)) (sym c.in-None.is)
    ∙ ap (λ (o : Option DataObject). option_map (λ (p : DataObject). p.value) o) found
