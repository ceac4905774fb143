use Rattle.std.proofs.Common.{◌≡◌, ◌≤◌, ◌∙◌, sym, ap, length, List, ℕ, arith, rules}
use Rattle.card_model.specs.laws.Rules.{length-rule}
use Rattle.card_model.proofs.compact.Compact.parse.Goals as goal

pub unwrap-requires : goal.unwrap-requires
unwrap-requires c =
    let few : length c.args.bytes.now ≤ 8 =
    length-rule c.args.bytes.now (sym c.is_rule.ensures ∙ c.if-not-is_rule.false) in
    let fresh : length c.new-rule.result.items ≡ 0 = ap (λ (items : List ℕ). length items) c.new-rule.ensures in
    c.try_extend_from_slice.ensures.variant.1 (omega arith)

pub returns-then-not-is_rule : goal.returns-then-not-is_rule
returns-then-not-is_rule c = search rules
