-- The exit status of each fault; 0 means success.
use Rattle.std.specs.Prelude.{ℕ}
use Rattle.bench_lines.specs.declared.fault.RunFault.{RunFault}
use Rattle.bench_lines.specs.declared.fault.RunFault.TheVariants.{BadLine, Read, Write, Memory, Unkept}

abbrev pub status_of : RunFault → ℕ
status_of (BadLine line) = 2
status_of Read = 3
status_of Write = 4
status_of Memory = 5
status_of Unkept = 7
