use Rattle.std.proofs.Common.{not, rules, sym, ◌∙◌, ap, true≢false}
use Rattle.std.proofs.lemmas.Bool.{eq-eqb}
use Rattle.file_lookup.proofs.naming.bears_name.Goals as goal
use Rattle.file_lookup.proofs.naming.bears_name.Goals.{then-has_kind, else-has_kind}

pub returns-then-entry-ne0 : goal.returns-then-entry-ne0
returns-then-entry-ne0 c = (
  λ is. elim c.if-has_kind.branch [
    | then-has_kind w ↦ record {
      kind = c.has_kind.ensures.0 w.if-has_kind.true;
      some = λ none. true≢false (sym c.if-entry-ne0.true ∙ w.value-is ∙ ap not (eq-eqb _ _ none));
      name = search rules;
    }
    | else-has_kind w ↦ absurd (true≢false (sym c.if-entry-ne0.true ∙ w.value-is ∙ w.if-has_kind.false))
  ],
  λ names. search rules,
)
