use Rattle.std.proofs.Common.{◌≡◌, ◌*◌, length, take}
use Rattle.card_boards.specs.Images.{image_bytes}
use Rattle.card_calls.specs.declared.write.TheConstants.{WORD_BYTES}
use Rattle.card_calls.proofs.write.Write.bytes.Given as goal

abbrev pub invariant-loop-i : goal.invariant-loop-i
invariant-loop-i l = record {
  items : l.bytes.items ≡ image_bytes (take l.i l.self.words);
  size : length l.bytes.items ≡ WORD_BYTES * l.i;
}
