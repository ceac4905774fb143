use Rattle.std.proofs.Common.{sym, ◌∙◌, ◌-◌}
use Rattle.std.proofs.lemmas.Bool.{eqb-true}
use Rattle.file_tree.specs.laws.Levels.{ancestor-fixed}
use Rattle.tree_check.proofs.table.ancestor.Goals as goal

pub returns-then-eq : goal.returns-then-eq
returns-then-eq c =
    let t = c.args.entries.now in
    let own = sym c.parent_of-parent.ensures ∙ eqb-true _ _ (sym c.eq.ensures ∙ c.if-eq.true) in
    sym (c.loop-step.invariant ∙ ancestor-fixed t (c.args.steps - c.loop-step._step) c.loop-step.at own)
