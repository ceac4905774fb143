-- The phases of an exchange: what holds in the world after each event.
use Rattle.std.specs.Prelude.{◌⊎◌, ◌≡◌, ◌≢◌, ◌≤◌, ◌+◌, ◌*◌, ℕ, true, not, ◌==◌, List, [], ◌∷◌, ◌++◌, length, Some, Ok}
use Rattle.t1_link.specs.declared.block.ErrorKind.{ErrorKind}
use Rattle.t1_link.specs.declared.reader_end.Phase.TheVariants.{Idle, Busy, Dead}
use Rattle.t1_link.specs.declared.sequence_number.SequenceNumber.{SequenceNumber}
use Rattle.t1_link.specs.Blocks.{Block, frame, heard, information, receive_ready, resynch_request, resynch_response}
use Rattle.t1_link.specs.SequenceNumbers.{other_number}
use Rattle.t1_link.specs.CardTable.{Link, fresh, sent_block, sent_more}
use Rattle.t1_link.specs.Worlds.{Carried, carrying, Line, Machine, Report, Unknown, World, is_command, quiet}
use Rattle.t1_link.specs.Worlds.{toward_card, toward_reader}
use Rattle.t1_link.specs.WorldRepairs.{Counts, NoneFailed, Repaired, answer_blocks, command_blocks, newest}
use Rattle.std.proofs.Common.{inl, inr}
use Rattle.t1_link.specs.WorldLaw.{Fits, Kept, OnlyRequestsFollow, requests}

-- what came to pass, and the state that the machine is in
pub record History (M : Type 0) : Type 0 where
  pub machine : M
  pub sent : List (List ℕ)
  pub carried : List Carried
  pub reports : List Report

-- what a try and a lost block leave as it was
pub record Core (M : Type 0) : Type 0 where
  pub ns : SequenceNumber
  pub nr : SequenceNumber
  pub field : List ℕ
  pub rest : List ℕ
  pub answer : List ℕ
  pub card : Link
  pub past : History M

abbrev pub core : {M : Type 0} → World M → Core M
core w = record {
  ns = w.reader.ns;
  nr = w.reader.nr;
  field = w.reader.field;
  rest = w.reader.rest;
  answer = w.reader.answer;
  card = w.card;
  past = record { machine = w.machine; sent = w.sent; carried = w.carried; reports = w.reports };
}

-- the command in hand was not carried out
pub record Before {M : Type 0} (machine : Machine M) (start : M) (h : History M) (command : List ℕ) : Type 0 where
  pub earlier : List (List ℕ)
  pub sent : h.sent ≡ command ∷ earlier
  pub kept : Kept machine start earlier h.carried h.reports h.machine

-- the command in hand was carried out, with this answer
pub record After {M : Type 0} (machine : Machine M) (start : M) (h : History M) (answer : List ℕ) : Type 0 where
  pub command : List ℕ
  pub sound : is_command command ≡ true
  pub earlier : List (List ℕ)
  pub sent : h.sent ≡ command ∷ earlier
  pub was : M
  pub before : List Carried
  pub carried : h.carried ≡ carrying machine was command ∷ before
  pub machine_is : h.machine ≡ machine.next was command
  pub answer_is : machine.answer was command ≡ answer
  pub kept : Kept machine start earlier before h.reports was

-- the reader's end offers a block of the command that the card's end has not taken
pub record CommandOffered {M : Type 0} (machine : Machine M) (start : M) (k : Core M) : Type 0 where
  pub command : List ℕ
  pub sound : is_command command ≡ true
  pub history : Before machine start k.past command
  pub number : k.card.nr ≡ other_number k.ns
  pub answered : k.card.ns ≡ k.nr
  pub empty : k.answer ≡ []
  pub unsent : k.card.rest ≡ []
  pub size : k.card.ifsd ≡ 32
  pub field : length k.field ≤ 254
  pub whole : k.card.held ++ (k.field ++ k.rest) ≡ command

-- the card's end has taken it, and more of the command follows
pub record CommandTaken {M : Type 0} (machine : Machine M) (start : M) (k : Core M) : Type 0 where
  pub command : List ℕ
  pub sound : is_command command ≡ true
  pub history : Before machine start k.past command
  pub number : k.card.nr ≡ k.ns
  pub answered : k.card.ns ≡ k.nr
  pub empty : k.answer ≡ []
  pub unsent : k.card.rest ≡ []
  pub size : k.card.ifsd ≡ 32
  pub more : not (length k.rest == 0) ≡ true
  pub whole : k.card.held ++ k.rest ≡ command

-- the card's end offers a block of the answer that the reader's end has not taken
pub record AnswerOffered {M : Type 0} (machine : Machine M) (start : M) (k : Core M) : Type 0 where
  pub answer : List ℕ
  pub at_least : 2 ≤ length answer
  pub at_most : length answer ≤ 258
  pub history : After machine start k.past answer
  pub number : k.card.nr ≡ k.ns
  pub answered : k.card.ns ≡ other_number k.nr
  pub held : k.card.held ≡ []
  pub sent_all : k.rest ≡ []
  pub size : k.card.ifsd ≡ 32
  pub field : List ℕ
  pub last : k.card.sent ≡ Some field
  pub fits : length field ≤ 254
  pub whole : k.answer ++ (field ++ k.card.rest) ≡ answer

-- the reader's end has taken it, and more of the answer follows
pub record AnswerTaken {M : Type 0} (machine : Machine M) (start : M) (k : Core M) : Type 0 where
  pub answer : List ℕ
  pub at_least : 2 ≤ length answer
  pub at_most : length answer ≤ 258
  pub history : After machine start k.past answer
  pub number : k.card.nr ≡ k.ns
  pub answered : k.card.ns ≡ k.nr
  pub held : k.card.held ≡ []
  pub sent_all : k.rest ≡ []
  pub size : k.card.ifsd ≡ 32
  pub more : sent_more k.card ≡ true
  pub whole : k.answer ++ k.card.rest ≡ answer

pub data Stage : Type 0 where
  command_offered : Stage
  command_taken : Stage
  answer_offered : Stage
  answer_taken : Stage

abbrev pub At : {M : Type 0} → Machine M → M → Stage → Core M → Type 0
At machine start command_offered k = CommandOffered machine start k
At machine start command_taken k = CommandTaken machine start k
At machine start answer_offered k = AnswerOffered machine start k
At machine start answer_taken k = AnswerTaken machine start k

-- the I-block that may be under way toward the card, and toward the reader
abbrev pub OfferedByReader : {M : Type 0} → Stage → Core M → Block → Type 0
OfferedByReader command_offered k b = b ≡ information (other_number k.ns) (not (length k.rest == 0)) k.field
OfferedByReader command_taken k b = ⊥
OfferedByReader answer_offered k b = ⊥
OfferedByReader answer_taken k b = ⊥

abbrev pub OfferedByCard : {M : Type 0} → Stage → Core M → Block → Type 0
OfferedByCard command_offered k b = ⊥
OfferedByCard command_taken k b = ⊥
OfferedByCard answer_offered k b = b ≡ sent_block k.card
OfferedByCard answer_taken k b = ⊥

-- what may be under way: an R-block with the number that its sender expects, or an I-block
abbrev pub ToCard : {M : Type 0} → Stage → Core M → Block → Type 0
ToCard stage k b = ((error : ErrorKind) × (b ≡ receive_ready k.nr error)) ⊎ OfferedByReader stage k b

abbrev pub ToReader : {M : Type 0} → Stage → Core M → Block → Type 0
ToReader stage k b = ((error : ErrorKind) × (b ≡ receive_ready k.card.nr error)) ⊎ OfferedByCard stage k b

abbrev pub UnderWay : {M : Type 0} → Stage → Core M → Line → Type 0
UnderWay stage k line = ((b : Block) × (line ≡ toward_card b) × ToCard stage k b)
    ⊎ ((b : Block) × (line ≡ toward_reader b) × ToReader stage k b)

-- an answer is awaited, and RESYNCH was not requested
pub record Awaits {M : Type 0} (w : World M) : Type 0 where
  pub phase : w.reader.phase ≡ Busy
  pub resynchs : w.reader.resynchs ≡ 0
  pub only : OnlyRequestsFollow w.offered
  pub requested : requests w.offered ≡ 0

pub record Exchange {M : Type 0} (machine : Machine M) (start : M) (w : World M) : Type 0 where
  pub stage : Stage
  pub at : At machine start stage (core w)
  pub awaits : Awaits w
  pub way : UnderWay stage (core w) w.line

-- no command is in hand
pub record AtRest {M : Type 0} (machine : Machine M) (start : M) (w : World M) : Type 0 where
  pub phase : w.reader.phase ≡ Idle
  pub resynchs : w.reader.resynchs ≡ 0
  pub number : w.card.nr ≡ w.reader.ns
  pub answered : w.card.ns ≡ w.reader.nr
  pub held : w.card.held ≡ []
  pub unsent : w.card.rest ≡ []
  pub size : w.card.ifsd ≡ 32
  pub line : w.line ≡ quiet
  pub kept : Kept machine start w.sent w.carried w.reports w.machine
  pub only : OnlyRequestsFollow w.offered
  pub most : requests w.offered ≤ 3
  pub fits : Fits w.reports w.offered

-- RESYNCH was requested: a request is under way, or a reply to it;
-- where that is the response, the card's end is as after power-on
pub record Requesting {M : Type 0} (machine : Machine M) (start : M) (w : World M) : Type 0 where
  pub phase : w.reader.phase ≡ Busy
  pub some : 1 ≤ w.reader.resynchs
  pub most : w.reader.resynchs ≤ 3
  pub count : requests w.offered ≡ w.reader.resynchs
  pub only : OnlyRequestsFollow w.offered
  pub kept : Kept machine start w.sent w.carried (Unknown ∷ w.reports) w.machine
  pub way : (w.line ≡ toward_card resynch_request)
      ⊎ (((w.line ≡ toward_reader resynch_response) × (w.card ≡ fresh))
      ⊎ ((b : Block) × (w.line ≡ toward_reader b) × (heard (frame b) ≢ Ok resynch_response)))

-- the link was given up
pub record GivenUp {M : Type 0} (machine : Machine M) (start : M) (w : World M) : Type 0 where
  pub phase : w.reader.phase ≡ Dead
  pub line : w.line ≡ quiet
  pub kept : Kept machine start w.sent w.carried w.reports w.machine
  pub only : OnlyRequestsFollow w.offered
  pub most : requests w.offered ≤ 3
  pub fits : Fits w.reports w.offered

-- what is under way in an exchange: an R-block or an I-block, toward the card or toward the reader
pub data Kind : Type 0 where
  asks_card : Kind
  offers_card : Kind
  asks_reader : Kind
  offers_reader : Kind

abbrev pub kind_there : {A B : Type 0} → A ⊎ B → Kind
kind_there (inl a) = asks_card
kind_there (inr b) = offers_card

abbrev pub kind_back : {A B : Type 0} → A ⊎ B → Kind
kind_back (inl a) = asks_reader
kind_back (inr b) = offers_reader

abbrev pub kind_of : {M : Type 0} (stage : Stage) (k : Core M) (line : Line) → UnderWay stage k line → Kind
kind_of stage k line (inl way) = kind_there way.2
kind_of stage k line (inr way) = kind_back way.2

-- how many tries the exchange still takes where nothing more is lost or garbled
abbrev pub need : Stage → Kind → ℕ
need command_offered asks_card = 1
need command_offered asks_reader = 1
need answer_offered asks_reader = 1
need answer_taken asks_reader = 1
need stage kind = 0

-- the answer of the command carried out last
abbrev pub newest_answer : List Carried → List ℕ
newest_answer [] = []
newest_answer (ran ∷ carried) = ran.answer

-- the Passes that led here, where nothing was lost or garbled
abbrev pub Straight : {M : Type 0} → ℕ → Stage → Kind → Core M → Type 0
Straight passes command_offered offers_card k = passes + 2 * command_blocks k.rest + 2
    ≡ 2 * command_blocks (newest k.past.sent)
Straight passes command_taken asks_reader k = passes + 1 + 2 * command_blocks k.rest
    ≡ 2 * command_blocks (newest k.past.sent)
Straight passes answer_offered offers_reader k = passes + 3 + 2 * answer_blocks k.card.rest ≡ 2 *
    (command_blocks (newest k.past.sent) + answer_blocks (newest_answer k.past.carried))
Straight passes answer_taken asks_card k = passes + 2 + 2 * answer_blocks k.card.rest ≡ 2 *
    (command_blocks (newest k.past.sent) + answer_blocks (newest_answer k.past.carried))
Straight passes stage kind k = ⊥

-- what the counts say of an exchange
pub data Budget {M : Type 0} (c : Counts) (stage : Stage) (kind : Kind) (k : Core M) (tries : ℕ) : Type 0 where
  many : 2 ≤ c.faults → Budget c stage kind k tries
  once : c.faults ≡ 1 → tries + need stage kind ≤ 2 → Budget c stage kind k tries
  none_yet : c.faults ≡ 0 → tries ≡ 0 → Straight c.passes stage kind k → Budget c stage kind k tries

-- some report was Failed
abbrev pub SomeFailed : List Report → Type 0
SomeFailed reports = NoneFailed reports → ⊥

pub data Good {M : Type 0} (machine : Machine M) (start : M) (c : Counts) (w : World M) : Type 0 where
  at_rest : AtRest machine start w → Repaired c w.sent w.reports → Good machine start c w
  exchange : (x : Exchange machine start w)
      → Budget c x.stage (kind_of x.stage (core w) w.line x.way) (core w) w.reader.tries → Good machine start c w
  requesting_now : Requesting machine start w → 2 ≤ c.faults → Good machine start c w
  given_up : GivenUp machine start w → Repaired c w.sent w.reports → SomeFailed w.reports → Good machine start c w
