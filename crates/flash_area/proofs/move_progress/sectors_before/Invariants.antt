use Rattle.std.proofs.Common.{◌≤◌, ◌+◌}
use Rattle.flash_area.proofs.move_progress.sectors_before.Given as goal

abbrev pub invariant-loop-n : goal.invariant-loop-n
invariant-loop-n g l = record { within : g.F.Flash.sector_start (l.first + l.n) ≤ l.end }
