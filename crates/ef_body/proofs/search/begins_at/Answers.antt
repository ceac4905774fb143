use Rattle.std.proofs.Common.{◌∙◌, ap, List, ℕ}
use Rattle.std.specs.Prelude.{nat_eq}
use Rattle.std.specs.List.{starts_with}
use Rattle.std.proofs.lemmas.List.{take_rest}
use Rattle.ef_body.proofs.search.begins_at.Goals as goal

pub returns : goal.returns
returns c =
    c.starts_with.ensures.value
    ∙ ap (λ (l : List ℕ). starts_with nat_eq l c.args.text.now) (take_rest c.args.bytes.now c.args.at)
