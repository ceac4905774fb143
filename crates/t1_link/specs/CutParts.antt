-- Bytes sent in a chain of I-blocks.
use Rattle.std.specs.Prelude.{ℕ, ◌≤◌, ◌==◌, not, List, [], length, take, drop}
use Rattle.t1_link.specs.Blocks.{Block, information}
use Rattle.t1_link.specs.SequenceNumbers.{other_number}
use Rattle.t1_link.specs.declared.sequence_number.SequenceNumber.{SequenceNumber}
use Rattle.t1_link.specs.declared.sequence_number.SequenceNumber.TheVariants.{Zero}

-- the number of the next I-block, the information field of the last one, and the bytes not sent yet
pub record Pieces : Type 0 where
  pub number : SequenceNumber
  pub field : List ℕ
  pub rest : List ℕ

-- no bytes, as after power-on
abbrev pub no_pieces : Pieces
no_pieces = record { number = Zero; field = []; rest = [] }

-- new bytes to send; the sequence number continues
abbrev pub loaded : Pieces → List ℕ → Pieces
loaded p bytes = record { number = p.number; field = []; rest = bytes }

-- the next piece, of at most `size` bytes; the sequence number toggles
abbrev pub cut : Pieces → ℕ → Pieces
cut p size = record { number = other_number p.number; field = take size p.rest; rest = drop size p.rest }

-- the I-block with the last piece
abbrev pub last_piece : Pieces → Block
last_piece p = information (other_number p.number) (not (length p.rest == 0)) p.field

-- the range `start` to `end` lies within these bytes
pub record IsPlaced (bytes : List ℕ) (start end : ℕ) : Type 0 where
  pub ordered : start ≤ end
  pub within : end ≤ length bytes
