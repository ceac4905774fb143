use Rattle.flash_cli.proofs.report_run_fault.Goals as goal

pub returns : goal.returns
returns g c = c.status.ensures
