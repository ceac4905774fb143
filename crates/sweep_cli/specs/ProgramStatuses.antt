-- The exit status that reports why the program has no report.
use Rattle.std.specs.Prelude.{ℕ}
use Rattle.sweep_cli.specs.declared.fault.ProgramFault.{ProgramFault}
use Rattle.sweep_cli.specs.declared.fault.ProgramFault.TheVariants.{Usage, NoBoard, NoReport}
use Rattle.card_sweeps.specs.ExitStatuses.{exit_status_of}
use Rattle.card_files.specs.BoardStatuses.{board_status_of}

-- the exit status of the program
abbrev pub program_status_of : ProgramFault → ℕ
program_status_of Usage = 1
program_status_of (NoBoard fault) = board_status_of fault
program_status_of (NoReport fault) = exit_status_of fault
