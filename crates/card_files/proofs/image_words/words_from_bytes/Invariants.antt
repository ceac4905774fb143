use Rattle.std.proofs.Common.{◌≡◌, ◌*◌, take}
use Rattle.nvm_board.specs.Facts.{AreWords}
use Rattle.card_boards.specs.Images.{image_bytes}
use Rattle.card_files.specs.declared.image_words.TheConstants.{WORD_BYTES}
use Rattle.card_files.proofs.image_words.words_from_bytes.Given as goal

abbrev pub invariant-loop-i : goal.invariant-loop-i
invariant-loop-i l = record {
  fit : AreWords l.words.items;
  image : image_bytes l.words.items ≡ take (WORD_BYTES * l.i) l.bytes;
}
