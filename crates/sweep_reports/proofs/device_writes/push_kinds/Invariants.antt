use Rattle.std.proofs.Common.{◌≡◌, ◌+◌, ◌++◌, length, string_bytes}
use Rattle.sweep_reports.specs.DeviceWrites.{kinds_text}
use Rattle.sweep_reports.proofs.device_writes.push_kinds.Given as goal

abbrev pub invariant-loop-rest : goal.invariant-loop-rest
invariant-loop-rest l = record {
  text_is : string_bytes l.text ++ kinds_text l.number l.rest ≡ string_bytes l.fn.text ++ kinds_text 1 l.writes;
  size : l.number + length l.rest ≡ length l.writes + 1;
}

abbrev pub decreases-loop-rest : goal.decreases-loop-rest
decreases-loop-rest l = length l.rest
