-- The card's end of T=1: its state between blocks, and its reaction to each (ISO/IEC 7816-3, clause 11.6).
-- The rows are numbered as in the table of docs/LINK.md.
use Rattle.std.specs.Prelude.{ℕ, Bool, not, List, [], ◌∷◌, ◌++◌, length, take, drop, ◌==◌, ◌&&◌, Option, None}
use Rattle.std.specs.Prelude.{Some, Result, Ok, Err, unwrap_or, is_some}
use Rattle.t1_link.specs.declared.block.ErrorKind.{ErrorKind}
use Rattle.t1_link.specs.declared.block.ErrorKind.TheVariants.{ErrorFree, OtherError}
use Rattle.t1_link.specs.declared.block.Fault.{Fault}
use Rattle.t1_link.specs.declared.card_end.Action.{Action}
use Rattle.t1_link.specs.declared.card_end.Action.TheVariants.{Reply, Run}
use Rattle.t1_link.specs.declared.sequence_number.SequenceNumber.{SequenceNumber}
use Rattle.t1_link.specs.declared.sequence_number.SequenceNumber.TheVariants.{Zero}
use Rattle.t1_link.specs.Blocks.{Block, information, receive_ready, resynch_request, resynch_response, ifs_request}
use Rattle.t1_link.specs.Blocks.{ifs_response, frame, heard, first_of, told_as}
use Rattle.t1_link.specs.SequenceNumbers.{other_number, same}

-- The state of the card's end: the number of the next I-block to send (`ns`) and of the expected one (`nr`).
-- `ifsd` is the information field size that the reader takes, and `sent` the information field of the last I-block.
-- `rest` is the answer not sent yet, and `held` the command received so far.
pub record Link : Type 0 where
  pub ns : SequenceNumber
  pub nr : SequenceNumber
  pub ifsd : ℕ
  pub sent : Option (List ℕ)
  pub rest : List ℕ
  pub held : List ℕ

-- the state after power-on and after RESYNCH
abbrev pub fresh : Link
fresh = record { ns = Zero; nr = Zero; ifsd = 32; sent = None; rest = []; held = [] }

-- bit M of the last I-block sent: more of the answer follows
abbrev pub sent_more : Link → Bool
sent_more l = not (length l.rest == 0)

-- true if the last I-block sent has this number
abbrev pub sent_number : Link → SequenceNumber → Bool
sent_number l number = is_some l.sent && same number (other_number l.ns)

-- the last I-block sent, again
abbrev pub sent_block : Link → Block
sent_block l = information (other_number l.ns) (sent_more l) (unwrap_or l.sent [])

-- the command bytes with those of a block appended; only the first 262 are stored
abbrev pub joined : Link → List ℕ → List ℕ
joined l field = take 262 (l.held ++ field)

-- The reaction of the card's end to a block: it replies, or it has a whole command to run.
pub data Reaction : Type 0 where
  replies : Block → Reaction
  runs : List ℕ → Reaction

pub record Taken : Type 0 where
  pub link : Link
  pub reaction : Reaction

abbrev pub replying : Link → Block → Taken
replying l b = record { link = l; reaction = replies b }

-- replies with an R-block that has the expected number
abbrev pub refusing : Link → ErrorKind → Taken
refusing l error = replying l (receive_ready l.nr error)

-- sends the next I-block: at most `ifsd` of these bytes, with M if more follow; the sequence number toggles
abbrev pub sending : Link → List ℕ → Taken
sending l bytes = replying
    (record l { ns = other_number l.ns; sent = Some (take l.ifsd bytes); rest = drop l.ifsd bytes })
    (information l.ns (not (length (drop l.ifsd bytes) == 0)) (take l.ifsd bytes))

-- An R-block arrived, with which the reader requests the block of this number. The first row that fits counts.
abbrev pub takes_receive_ready : Link → SequenceNumber → Taken
takes_receive_ready l number = first_of (
    -- 7. the last I-block sent has this number: that block again
    (sent_number l number, replying l (sent_block l))
    -- 8. it has the other number, and M: the next I-block of the answer
    ∷ (sent_more l, sending l l.rest)
    ∷ [])
    -- 9. else: R-block, no error
    (refusing l ErrorFree)

-- An I-block arrived. The first row that fits counts.
abbrev pub takes_information : Link → SequenceNumber → Bool → List ℕ → Taken
takes_information l number more field = first_of (
    -- 10. more of an answer is to be sent: R-block, other error
    (sent_more l, refusing l OtherError)
    -- 11. not the number that is expected: R-block, other error
    ∷ (not (same number l.nr), refusing l OtherError)
    -- 12. more blocks follow: its bytes are appended, and an R-block without error expects the next number
    ∷ (more, refusing (record l { nr = other_number l.nr; held = joined l field }) ErrorFree)
    ∷ [])
    -- 13. else its bytes are appended, and the command is to be run; the stored bytes are cleared
    (record { link = record l { nr = other_number l.nr; held = [] }; reaction = runs (joined l field) })

-- The reaction to a received block or fault, row by row.
unfoldable pub card_takes : Link → Result Block Fault → Taken
-- 1 to 3. no valid block, as its length, its check byte or its kind is wrong:
-- R-block, other, redundancy or other error
card_takes l (Err fault) = refusing l (told_as fault)
-- 4. a request for RESYNCH: the state returns to that after power-on
card_takes l (Ok resynch_request) = replying fresh resynch_response
-- 5. a request for an information field size: it applies from now on
card_takes l (Ok (ifs_request size)) = replying (record l { ifsd = size }) (ifs_response size)
-- 6. a response without a request: R-block, other error
card_takes l (Ok resynch_response) = refusing l OtherError
card_takes l (Ok (ifs_response size)) = refusing l OtherError
-- 7 to 9, for any kind of error in the R-block
card_takes l (Ok (receive_ready number error)) = takes_receive_ready l number
-- 10 to 13
card_takes l (Ok (information number more field)) = takes_information l number more field

-- the reaction to received bytes
abbrev pub link_step : Link → List ℕ → Taken
link_step l bytes = card_takes l (heard bytes)

-- the first I-block of an answer
abbrev pub answers : Link → List ℕ → Taken
answers l answer = sending l answer

-- the bytes of the reply; none if a command is to be run
abbrev pub reply_bytes : Reaction → List ℕ
reply_bytes (replies b) = frame b
reply_bytes (runs command) = []

-- what the caller does next
abbrev pub action_of : Reaction → Action
action_of (replies b) = Reply
action_of (runs command) = Run

-- the command that waits for its answer after a reaction
abbrev pub waiting_command : Reaction → Option (List ℕ)
waiting_command (replies b) = None
waiting_command (runs command) = Some command

-- The value of the card's end: its link, and the command that waits for its answer.
pub record CardLink : Type 0 where
  pub link : Link
  pub waiting : Option (List ℕ)

-- the value of the card's end after a reaction
abbrev pub after : Taken → CardLink
after taken = record { link = taken.link; waiting = waiting_command taken.reaction }
