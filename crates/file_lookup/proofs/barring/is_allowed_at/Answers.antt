use Rattle.std.proofs.Common.{◌∙◌}
use Rattle.card_model.specs.Rule.{allows}
use Rattle.file_lookup.proofs.barring.is_allowed_at.Goals as goal

pub returns : goal.returns
returns c =
    c.allows.ensures
    ∙ (λ i. allows (c.rule.ensures i) c.args.bit (c.life_cycle.ensures i) c.args.verified.now c.args.disabled.now)
