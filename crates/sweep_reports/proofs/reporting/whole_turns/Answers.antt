use Rattle.std.proofs.Common.{◌++◌, ◌∷◌, [], List, ap, refl}
use Rattle.card_sweeps.specs.declared.steps.Step.{Step}
use Rattle.card_sweeps.specs.declared.steps.Step.TheVariants.{Block}
use Rattle.card_sweeps.proofs.Turned.{are-turns-push, are-turns-same}
use Rattle.sweep_reports.proofs.reporting.whole_turns.Goals as goal

pub returns : goal.returns
returns c = are-turns-same _ _ _ _
    (ap (λ (l : List Step). l ++ Block c.args.script.now.command ∷ []) c.deref.ensures.value)
    c.in_ok-push.ensures.items
    (are-turns-push _ _ (Block c.args.script.now.command) _ c.in_ok-whole.ensures
    (c.as_slice.result, refl, c.as_slice.ensures))
