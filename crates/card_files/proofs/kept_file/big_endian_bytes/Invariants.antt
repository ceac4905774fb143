use Rattle.std.proofs.Common.{◌≡◌, ◌*◌, length, take}
use Rattle.card_boards.specs.Images.{image_bytes}
use Rattle.card_files.specs.declared.image_words.TheConstants.{WORD_BYTES}
use Rattle.card_files.proofs.kept_file.big_endian_bytes.Given as goal

abbrev pub invariant-loop-i : goal.invariant-loop-i
invariant-loop-i l = record {
  items : l.bytes.items ≡ image_bytes (take l.i l.words);
  size : length l.bytes.items ≡ WORD_BYTES * l.i;
}
