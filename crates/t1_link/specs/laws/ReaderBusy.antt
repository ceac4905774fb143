-- The reader's end has a command in hand exactly where it says that a block is to be sent.
use Rattle.std.specs.Prelude.{◌≡◌, ◌==◌, ◌↔◌, ◌||◌, ◌+◌, Bool, true, false, not, nat_lt, if◌then◌else◌, List, ◌++◌}
use Rattle.std.specs.Prelude.{length, ℕ, Result, Ok, Err, refl}
use Rattle.std.proofs.Common.{ap, subst, sym}
use Rattle.t1_link.specs.declared.block.ErrorKind.{ErrorKind}
use Rattle.t1_link.specs.declared.block.ErrorKind.TheVariants.{ErrorFree, OtherError}
use Rattle.t1_link.specs.declared.block.Fault.{Fault}
use Rattle.t1_link.specs.declared.reader_end.Phase.{Phase}
use Rattle.t1_link.specs.declared.reader_end.Phase.TheVariants.{Idle, Busy, Dead}
use Rattle.t1_link.specs.declared.reader_end.Failure.TheVariants.{BadAnswer, LinkLost}
use Rattle.t1_link.specs.declared.sequence_number.SequenceNumber.{SequenceNumber}
use Rattle.t1_link.specs.Blocks.{Block, information, receive_ready, resynch_request, resynch_response, ifs_request}
use Rattle.t1_link.specs.Blocks.{heard, ifs_response, told_as}
use Rattle.t1_link.specs.SequenceNumbers.{other_number, same}
use Rattle.t1_link.specs.declared.reader_end.Next.{Next}
use Rattle.t1_link.specs.ReaderFields.{HasAnswer, IsSend, next_of}
use Rattle.t1_link.specs.ReaderTable.{CommandReport, Reader, Turned, advancing, asking, failing, fails, gives, has_more}
use Rattle.t1_link.specs.ReaderTable.{is_busy, last_block, reader_step, requesting, requesting_again}
use Rattle.t1_link.specs.ReaderTable.{sends, trying, turns_answer, turns_block, turns_information, turns_receive_ready}
use Rattle.t1_link.specs.ReaderTable.{turns_resynch, unknown}

-- a block is to be sent
abbrev pub is_block : CommandReport → Bool
is_block (sends b) = true
is_block (gives answer) = false
is_block unknown = false
is_block (fails failure) = false

-- the command is in hand where a block is to be sent, and an answer that is told is kept
abbrev pub Agrees : Turned → Type 0
Agrees t = (is_block t.outcome ≡ is_busy t.reader.phase) × HasAnswer t.outcome t.reader

agrees-if : (test : Bool) (one other : Turned) → Agrees one → Agrees other → Agrees (if test then one else other)
agrees-if true one other a b = a
agrees-if false one other a b = b

module _ (r : Reader) (busy : r.phase ≡ Busy) where
  in_hand : (true ≡ is_busy r.phase) × Unit {0}
  in_hand = (sym (ap is_busy busy), tt)

  agrees-trying : (b : Block) → Agrees (trying r b)
  agrees-trying b = agrees-if (nat_lt r.tries 3)
      (record { reader = record r { tries = r.tries + 1 }; outcome = sends b }) (requesting r) in_hand in_hand

  agrees-asking : (error : ErrorKind) → Agrees (asking r error)
  agrees-asking error = agrees-trying (receive_ready r.nr error)

  agrees-receive_ready : (number : SequenceNumber) → Agrees (turns_receive_ready r number)
  agrees-receive_ready number = agrees-if (same number (other_number r.ns)) (trying r (last_block r))
      (if has_more r then advancing r r.rest else asking r OtherError)
      (agrees-trying (last_block r))
      (agrees-if (has_more r) (advancing r r.rest) (asking r OtherError) in_hand (agrees-asking OtherError))

  agrees-answer : (more : Bool) (bytes : List ℕ) → Agrees (turns_answer r more bytes)
  agrees-answer more bytes =
      let joined : Turned = record {
        reader = record r { nr = other_number r.nr; tries = 0; answer = bytes };
        outcome =
            sends (receive_ready (other_number r.nr) ErrorFree);
      } in
      let done : Turned = record {
        reader = record r { nr = other_number r.nr; answer = bytes; phase = Idle };
        outcome =
            gives bytes;
      } in
      let whole : Turned = if nat_lt (length bytes) 2 then failing r BadAnswer else done in
      agrees-if (nat_lt 258 (length bytes)) (failing r BadAnswer) (if more then joined else whole) (refl, tt)
      (agrees-if more joined whole in_hand
      (agrees-if (nat_lt (length bytes) 2) (failing r BadAnswer) done (refl, tt) (refl, refl)))

  agrees-information : (number : SequenceNumber) (more : Bool) (field : List ℕ)
      → Agrees (turns_information r number more field)
  agrees-information number more field =
      agrees-if (has_more r || not (same number r.nr)) (asking r OtherError) (turns_answer r more (r.answer ++ field))
      (agrees-asking OtherError) (agrees-answer more (r.answer ++ field))

  pub agrees-block : (h : Result Block Fault) → Agrees (turns_block r h)
  unfolding turns_block
  agrees-block (Err fault) = agrees-asking (told_as fault)
  agrees-block (Ok resynch_request) = agrees-asking OtherError
  agrees-block (Ok resynch_response) = agrees-asking OtherError
  agrees-block (Ok (ifs_request size)) = agrees-asking OtherError
  agrees-block (Ok (ifs_response size)) = agrees-asking OtherError
  agrees-block (Ok (receive_ready number error)) = agrees-receive_ready number
  agrees-block (Ok (information number more field)) = agrees-information number more field

  agrees-again : Agrees (requesting_again r)
  agrees-again = agrees-if (nat_lt r.resynchs 3) (requesting r) (failing r LinkLost) in_hand (refl, tt)

  pub agrees-resynch : (h : Result Block Fault) → Agrees (turns_resynch r h)
  unfolding turns_resynch
  agrees-resynch (Err fault) = agrees-again
  agrees-resynch (Ok resynch_request) = agrees-again
  agrees-resynch (Ok resynch_response) = (refl, tt)
  agrees-resynch (Ok (ifs_request size)) = agrees-again
  agrees-resynch (Ok (ifs_response size)) = agrees-again
  agrees-resynch (Ok (receive_ready number error)) = agrees-again
  agrees-resynch (Ok (information number more field)) = agrees-again

  pub agrees-step : (bytes : List ℕ) → Agrees (reader_step r bytes)
  agrees-step bytes = agrees-if (r.resynchs == 0) (turns_block r (heard bytes)) (turns_resynch r (heard bytes))
      (agrees-block (heard bytes)) (agrees-resynch (heard bytes))

-- in the words of the clauses
pub answer-kept : (t : Turned) (r : Reader) → r ≡ t.reader → Agrees t → HasAnswer t.outcome r
answer-kept t r is agrees = subst (HasAnswer t.outcome) (sym is) agrees.1

pub send-in_hand : (t : Turned) (next : Next) (r : Reader) → next ≡ next_of t.outcome → r ≡ t.reader → Agrees t
    → IsSend next ↔ (r.phase ≡ Busy)
send-in_hand t next r says is agrees =
    subst (λ (n : Next). IsSend n ↔ (r.phase ≡ Busy)) (sym says)
    (subst (λ (x : Reader). IsSend (next_of t.outcome) ↔ (x.phase ≡ Busy)) (sym is)
    (by t.outcome t.reader.phase agrees.0))
  where
    by : (o : CommandReport) (p : Phase) → is_block o ≡ is_busy p → IsSend (next_of o) ↔ (p ≡ Busy)
    by (sends b) Idle e = absurd cc
    by (sends b) Busy e = (λ _. refl, λ _. tt)
    by (sends b) Dead e = absurd cc
    by (gives answer) Idle e = (λ x. absurd x, λ busy. absurd cc)
    by (gives answer) Busy e = absurd cc
    by (gives answer) Dead e = (λ x. absurd x, λ busy. absurd cc)
    by unknown Idle e = (λ x. absurd x, λ busy. absurd cc)
    by unknown Busy e = absurd cc
    by unknown Dead e = (λ x. absurd x, λ busy. absurd cc)
    by (fails failure) Idle e = (λ x. absurd x, λ busy. absurd cc)
    by (fails failure) Busy e = absurd cc
    by (fails failure) Dead e = (λ x. absurd x, λ busy. absurd cc)
