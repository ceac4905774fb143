-- The reader's end of T=1: its state between blocks, and its reaction to each (ISO/IEC 7816-3, clause 11.6).
-- The rows are numbered as in the table of docs/LINK.md.
use Rattle.std.specs.Prelude.{◌+◌, ◌==◌, ◌||◌, ℕ, Bool, true, false, not, nat_lt, if◌then◌else◌, List, [], ◌∷◌, ◌++◌}
use Rattle.std.specs.Prelude.{length, take, drop, Result, Ok, Err}
use Rattle.t1_link.specs.declared.block.ErrorKind.{ErrorKind}
use Rattle.t1_link.specs.declared.block.ErrorKind.TheVariants.{ErrorFree, OtherError}
use Rattle.t1_link.specs.declared.block.Fault.{Fault}
use Rattle.t1_link.specs.declared.reader_end.Phase.{Phase}
use Rattle.t1_link.specs.declared.reader_end.Phase.TheVariants.{Idle, Busy, Dead}
use Rattle.t1_link.specs.declared.reader_end.Failure.{Failure}
use Rattle.t1_link.specs.declared.reader_end.Failure.TheVariants.{LinkLost, BadAnswer}
use Rattle.t1_link.specs.declared.sequence_number.SequenceNumber.{SequenceNumber}
use Rattle.t1_link.specs.declared.sequence_number.SequenceNumber.TheVariants.{Zero}
use Rattle.t1_link.specs.Blocks.{Block, information, receive_ready, resynch_request, resynch_response, ifs_request}
use Rattle.t1_link.specs.Blocks.{ifs_response, heard, first_of, told_as}
use Rattle.t1_link.specs.SequenceNumbers.{other_number, same}

-- The state of the reader's end: the number of the next I-block to send (`ns`) and of the expected one (`nr`).
-- `tries` counts the failed tries, and `resynchs` the RESYNCH requests. `field` is the information field of its last
-- I-block, `rest` the command not sent yet, and `answer` the answer received so far.
pub record Reader : Type 0 where
  pub ns : SequenceNumber
  pub nr : SequenceNumber
  pub tries : ℕ
  pub field : List ℕ
  pub rest : List ℕ
  pub answer : List ℕ
  pub resynchs : ℕ
  pub phase : Phase

-- the state after power-on and after a RESYNCH response
abbrev pub fresh_reader : Reader
fresh_reader = record {
  ns = Zero;
  nr = Zero;
  tries = 0;
  field = [];
  rest = [];
  answer = [];
  resynchs = 0;
  phase =
      Idle;
}

-- The result of a step: a block to send, the answer, unknown whether the command ran, or a failure.
pub data CommandReport : Type 0 where
  sends : Block → CommandReport
  gives : List ℕ → CommandReport
  unknown : CommandReport
  fails : Failure → CommandReport

pub record Turned : Type 0 where
  pub reader : Reader
  pub outcome : CommandReport

-- bit M of its last I-block: more of the command follows
abbrev pub has_more : Reader → Bool
has_more r = not (length r.rest == 0)

-- its last I-block
abbrev pub last_block : Reader → Block
last_block r = information (other_number r.ns) (has_more r) r.field

-- requests RESYNCH
abbrev pub requesting : Reader → Turned
requesting r = record { reader = record r { resynchs = r.resynchs + 1 }; outcome = sends resynch_request }

-- a try: sends this block, or after three tries the request for RESYNCH instead
abbrev pub trying : Reader → Block → Turned
trying r b = if nat_lt r.tries 3 then record { reader = record r { tries = r.tries + 1 }; outcome = sends b } else
    requesting r

-- a try: sends an R-block with the expected number
abbrev pub asking : Reader → ErrorKind → Turned
asking r error = trying r (receive_ready r.nr error)

-- gives up the link
abbrev pub failing : Reader → Failure → Turned
failing r failure = record { reader = record r { phase = Dead }; outcome = fails failure }

-- sends the next I-block: at most 254 of these bytes, with M if more follow
-- The sequence number toggles, and the count of tries returns to 0.
abbrev pub advancing : Reader → List ℕ → Turned
advancing r bytes = record {
  reader = record r { ns = other_number r.ns; tries = 0; field = take 254 bytes; rest = drop 254 bytes };
  outcome = sends (information r.ns (not (length (drop 254 bytes) == 0)) (take 254 bytes));
}

-- An R-block arrived, with which the card requests the block of this number. The first row that fits counts.
abbrev pub turns_receive_ready : Reader → SequenceNumber → Turned
turns_receive_ready r number = first_of (
    -- 4. the number of its last I-block: that block again, a try
    (same number (other_number r.ns), trying r (last_block r))
    -- 5. the other number, and its last I-block has M: the next I-block
    ∷ (has_more r, advancing r r.rest)
    ∷ [])
    -- 6. else: R-block, other error, a try
    (asking r OtherError)

-- Appends an I-block to the answer: `bytes` is the answer with it. The first row that fits counts.
abbrev pub turns_answer : Reader → Bool → List ℕ → Turned
turns_answer r more bytes = first_of (
    -- 8 and 9. an answer has at most 258 bytes
    (nat_lt 258 (length bytes), failing r BadAnswer)
    -- 8. more blocks follow: R-block, no error, with the next number
    ∷ (
      more,
      record {
        reader = record r { nr = other_number r.nr; tries = 0; answer = bytes };
        outcome =
            sends (receive_ready (other_number r.nr) ErrorFree);
      },
    )
    -- 9. an answer has at least 2 bytes
    ∷ (nat_lt (length bytes) 2, failing r BadAnswer)
    ∷ [])
    -- 9. else this is the answer, stored until the next command
    (record { reader = record r { nr = other_number r.nr; answer = bytes; phase = Idle }; outcome = gives bytes })

-- An I-block arrived.
abbrev pub turns_information : Reader → SequenceNumber → Bool → List ℕ → Turned
turns_information r number more field = first_of (
    -- 7. its last I-block has M, or it isn't the number that is expected: R-block, other error, a try
    (has_more r || not (same number r.nr), asking r OtherError)
    ∷ [])
    -- 8 and 9
    (turns_answer r more (r.answer ++ field))

-- The reaction to a received block while the answer is awaited, row by row.
unfoldable pub turns_block : Reader → Result Block Fault → Turned
-- 2. no valid block: R-block, with the kind of error, a try
turns_block r (Err fault) = asking r (told_as fault)
-- 3. an S-block: R-block, other error, a try
turns_block r (Ok resynch_request) = asking r OtherError
turns_block r (Ok resynch_response) = asking r OtherError
turns_block r (Ok (ifs_request size)) = asking r OtherError
turns_block r (Ok (ifs_response size)) = asking r OtherError
-- 4 to 6, for any kind of error in the R-block
turns_block r (Ok (receive_ready number error)) = turns_receive_ready r number
-- 7 to 9
turns_block r (Ok (information number more field)) = turns_information r number more field

-- The requested response didn't arrive: RESYNCH is requested at most three times.
abbrev pub requesting_again : Reader → Turned
requesting_again r = if nat_lt r.resynchs 3 then requesting r else failing r LinkLost

-- The reaction after a request for RESYNCH: to its response, or to anything else.
unfoldable pub turns_resynch : Reader → Result Block Fault → Turned
turns_resynch r (Ok resynch_response) = record { reader = fresh_reader; outcome = unknown }
turns_resynch r _ = requesting_again r

-- the reaction to a received block or fault
abbrev pub reader_takes : Reader → Result Block Fault → Turned
reader_takes r h = if r.resynchs == 0 then turns_block r h else turns_resynch r h

-- the reaction to received bytes
abbrev pub reader_step : Reader → List ℕ → Turned
reader_step r bytes = reader_takes r (heard bytes)

-- 1. nothing arrived in time: R-block, other error, a try; or the request for RESYNCH again
abbrev pub reader_times_out : Reader → Turned
reader_times_out r = if r.resynchs == 0 then asking r OtherError else requesting_again r

-- true if a command is in progress
abbrev pub is_busy : Phase → Bool
is_busy Idle = false
is_busy Busy = true
is_busy Dead = false

-- true if the link is given up
abbrev pub is_dead : Phase → Bool
is_dead Idle = false
is_dead Busy = false
is_dead Dead = true

-- Sends the first I-block of a command. Over a link that is given up nothing is sent.
abbrev pub reader_sends : Reader → List ℕ → Turned
reader_sends r command = if is_dead r.phase
    then record { reader = r; outcome = fails LinkLost }
    else advancing (record r { answer = []; phase = Busy }) command
