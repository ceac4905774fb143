-- The state of a `ReaderEnd` as the reader's table describes it, and what it returns.
use Rattle.std.specs.Prelude.{◌≡◌, ◌≤◌, ℕ, List, length}
use Rattle.t1_link.specs.ReaderTable.{Reader, CommandReport, sends, gives, unknown, fails}
use Rattle.t1_link.specs.Blocks.{frame}
use Rattle.t1_link.specs.declared.reader_end.ReaderEnd.TheInside.{Inside}
use Rattle.t1_link.specs.declared.reader_end.Next.{Next}
use Rattle.t1_link.specs.declared.reader_end.Next.TheVariants.{Send, Done, Unknown, Failed}

abbrev pub reader_of : Inside → Reader
reader_of r = record {
  ns = r.command.number;
  nr = r.expected;
  tries = r.tries;
  field = r.command.field;
  rest = r.command.rest;
  answer = r.answer.items;
  resynchs = r.resynchs;
  phase = r.phase;
}

-- every I-block fits into a block
abbrev pub IsSendable : Inside → Type 0
IsSendable r = length r.command.field ≤ 254

-- a block is to be sent
abbrev pub IsSend : Next → Type 0
IsSend Send = Unit {0}
IsSend Done = ⊥
IsSend Unknown = ⊥
IsSend (Failed failure) = ⊥

-- the step that the call returns
abbrev pub next_of : CommandReport → Next
next_of (sends b) = Send
next_of (gives answer) = Done
next_of unknown = Unknown
next_of (fails failure) = Failed failure

-- the contents of the block buffer after the call: the block to send, else unchanged
abbrev pub left_in : CommandReport → List ℕ → List ℕ
left_in (sends b) held = frame b
left_in (gives answer) held = held
left_in unknown held = held
left_in (fails failure) held = held

-- if the outcome is an answer, the reader's end stores it
abbrev pub HasAnswer : CommandReport → Reader → Type 0
HasAnswer (sends b) reader = Unit {0}
HasAnswer (gives answer) reader = reader.answer ≡ answer
HasAnswer unknown reader = Unit {0}
HasAnswer (fails failure) reader = Unit {0}
