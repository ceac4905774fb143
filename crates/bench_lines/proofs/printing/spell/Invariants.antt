use Rattle.std.proofs.Common.{◌≡◌, ◌≤◌, ◌+◌, ◌*◌, ◌++◌, codes, drop, take, length}
use Rattle.hex.specs.Hex.{encode_upper}
use Rattle.bench_lines.specs.declared.printing.TheConstants.{PRINTED_ROOM}
use Rattle.bench_lines.proofs.printing.spell.Given as goal

abbrev pub invariant-loop-i : goal.invariant-loop-i
invariant-loop-i l = record {
  within : l.i ≤ length l.bytes;
  size : length l.text ≡ PRINTED_ROOM;
  so_far : take (2 + 2 * l.i) l.text ++ encode_upper (drop l.i l.bytes) ≡ codes "< " ++ encode_upper l.bytes;
}
