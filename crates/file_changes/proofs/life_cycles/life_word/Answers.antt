use Rattle.std.proofs.Common.{arith}
use Rattle.file_changes.proofs.life_cycles.life_word.Goals as goal

pub returns : goal.returns
returns c = record {
  kind = omega (arith, c.bytes_and_half.ensures, c.to_byte.ensures.value);
  life = omega (arith, c.bytes_and_half.ensures, c.to_byte.ensures.value);
  identifier = omega (arith, c.bytes_and_half.ensures, c.to_byte.ensures.value);
}
