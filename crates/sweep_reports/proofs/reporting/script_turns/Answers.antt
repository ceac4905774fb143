use Rattle.std.proofs.Common.{refl}
use Rattle.card_sweeps.proofs.Turned.{are-turns-same}
use Rattle.sweep_reports.proofs.reporting.script_turns.Goals as goal

pub returns-clause-prepare : goal.returns-clause-prepare
returns-clause-prepare c = are-turns-same _ _ _ _ c.deref.ensures.value refl c.in_ok-prepare.ensures

pub returns-clause-probe : goal.returns-clause-probe
returns-clause-probe c = are-turns-same _ _ _ _ c.deref-2.ensures.value refl c.in_ok-probe.ensures
