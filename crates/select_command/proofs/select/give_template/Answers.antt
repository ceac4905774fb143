use Rattle.std.proofs.Common.{sym, ◌∙◌, ap}
use Rattle.card_model.specs.Guards.{asks_less, given, right_length}
use Rattle.select_command.proofs.select.give_template.Goals as goal

pub returns-then-asks_less : goal.returns-then-asks_less
returns-then-asks_less c =
    let told = c.template_of-template.ensures in (
      ap (asks_less c.args.expected) (sym told) ∙ sym c.asks_less.ensures ∙ c.if-asks_less.true,
      c.clear.ensures,
      c.right_length.ensures ∙ ap right_length told,
    )

pub returns : goal.returns
returns c =
    let told = c.template_of-template.ensures in (
      ap (asks_less c.args.expected) (sym told) ∙ sym c.asks_less.ensures ∙ c.if-asks_less.false,
      c.give.ensures.given ∙ ap (given c.args.expected) told,
      c.give.ensures.room,
    )
