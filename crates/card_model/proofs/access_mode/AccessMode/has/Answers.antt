use Rattle.std.proofs.Common.{ℕ, ◌-◌, ◌==◌, bit_and, ap, ◌∙◌}
use Rattle.card_model.specs.Access.{bit_number, mode_byte}
use Rattle.card_model.proofs.BitFacts.{has_bit}
use Rattle.card_model.proofs.access_mode.AccessMode.has.Goals as goal

pub returns : goal.returns
returns c =
    let mode = mode_byte c.args.self in
    c.contains.ensures tt ∙ ap (λ (flag : ℕ). bit_and mode flag == flag) c.flag.ensures
    ∙ has_bit mode (bit_number c.args.bit - 1)
