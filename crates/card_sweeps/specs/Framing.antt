-- How a command goes to the card: in the blocks that the reader's end sends after RESYNCH.
use Rattle.std.specs.Prelude.{ℕ, Bool, List, [], ◌∷◌, ◌++◌, length, nat_lt, if◌then◌else◌}
use Rattle.t1_link.specs.Blocks.{frame, receive_ready, resynch_request, ifs_request}
use Rattle.t1_link.specs.declared.block.ErrorKind.TheVariants.{ErrorFree}
use Rattle.t1_link.specs.declared.sequence_number.SequenceNumber.TheVariants.{One}
use Rattle.t1_link.specs.ReaderFields.{left_in}
use Rattle.t1_link.specs.ReaderTable.{fresh_reader, reader_sends, reader_step}
use Rattle.card_sweeps.specs.declared.steps.Step.{Step}
use Rattle.card_sweeps.specs.declared.steps.Step.TheVariants.{Block}

-- R(1) asks for the I-block after one with number 0
abbrev pub ready : List ℕ
ready = frame (receive_ready One ErrorFree)

-- what the reader's end sends of a command, after RESYNCH: the first block, and what follows R(1)
abbrev pub first_sent : List ℕ → List ℕ
first_sent command = left_in (reader_sends fresh_reader command).outcome []

abbrev pub second_sent : List ℕ → List ℕ
second_sent command =
    left_in (reader_step (reader_sends fresh_reader command).reader ready).outcome (first_sent command)

-- true if a command needs two blocks
abbrev pub is_long : List ℕ → Bool
is_long command = nat_lt 254 (length command)

-- what is sent before the last block of a command: RESYNCH, a field size of 254 bytes for the answer, and the first
-- block of a long command
abbrev pub steps_before : List ℕ → List Step
steps_before command =
    Block (frame resynch_request) ∷ Block (frame (ifs_request 254))
    ∷ (if is_long command then Block (first_sent command) ∷ [] else [])

-- the last block of a command; with it the card carries the command out
abbrev pub last_command_block : List ℕ → List ℕ
last_command_block command = if is_long command then second_sent command else first_sent command

-- a command and its whole answer
abbrev pub exchange : List ℕ → List Step
exchange command = steps_before command ++ Block (last_command_block command) ∷ Block ready ∷ []
