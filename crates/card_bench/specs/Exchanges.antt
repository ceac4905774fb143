-- An exchange: a command through both ends of the link, over a lossy line, with a card at the bench.
use Rattle.std.specs.Prelude.{◌≡◌, ◌⊎◌, ℕ, zero, suc, List, Option, None, Some, Result, Ok, Err}
use Rattle.t1_link.specs.Blocks.{frame}
use Rattle.t1_link.specs.ReaderTable.{CommandReport, Reader, Turned, fails, gives, reader_sends, reader_step}
use Rattle.t1_link.specs.ReaderTable.{reader_times_out, sends, unknown}
use Rattle.card_bench.specs.declared.reader_turns.TheConstants.{LINE_BLOCKS}
use Rattle.bench_turns.specs.declared.turn.Item.TheVariants as item
use Rattle.card_bench.specs.declared.line.Line.{Line}
use Rattle.bench_turns.specs.BenchStates.{BenchState}
use Rattle.card_bench.specs.Lines.{arriving, line_after}
use Rattle.bench_lines.specs.Printouts.{Print, prints_bytes, prints_dark, prints_lost}
use Rattle.bench_turns.specs.Turns.{GoodBlock}

-- the next block on the line, toward either end
pub data NextBlock : Type 0 where
  toward_card : List ℕ → NextBlock
  toward_reader : List ℕ → NextBlock

-- how an exchange ends: with this answer; by a RESYNCH, so that it is unknown whether the command ran; without a link,
-- as the reader's end gave it up or the limit of blocks was reached; or by power loss
pub data Ended : Type 0 where
  answered : List ℕ → Ended
  set_back : Ended
  link_lost : Ended
  power_lost : Ended

-- another command may be sent
abbrev pub GoesOn : Ended → Type 0
GoesOn (answered answer) = Unit {0}
GoesOn set_back = Unit {0}
GoesOn link_lost = ⊥
GoesOn power_lost = ⊥

-- the next step after the reader's end returned: the next block, or the end of the exchange
abbrev pub following : CommandReport → Result NextBlock Ended
following (sends block) = Ok (toward_card (frame block))
following (gives answer) = Err (answered answer)
following unknown = Err set_back
following (fails failure) = Err link_lost

-- the bench, the reader's end, and the pending faults of the line
pub record Ends : Type 0 where
  pub bench : BenchState
  pub reader : Reader
  pub line : Line

-- the step of the reader's end, and the next block or the end
pub record ReaderTurns (turned : Turned) (reader : Reader) (follows : Result NextBlock Ended) : Type 0 where
  pub reader_is : reader ≡ turned.reader
  pub follows_so : follows ≡ following turned.outcome

-- The card's end took these bytes, as a turn of the bench, and this is the next block or the end.
abbrev pub CardTakes : BenchState → List ℕ → BenchState → Result NextBlock Ended → Type 0
CardTakes old got new (Ok (toward_card bytes)) = ⊥
CardTakes old got new (Ok (toward_reader bytes)) = GoodBlock old got (item.Reply bytes) new
CardTakes old got new (Err (answered answer)) = ⊥
CardTakes old got new (Err set_back) = ⊥
CardTakes old got new (Err link_lost) = ⊥
CardTakes old got new (Err power_lost) = GoodBlock old got item.Dark new

-- This arrives of the block on the line. If nothing arrives, the reader's end times out.
abbrev pub Arrives : Ends → NextBlock → Option (List ℕ) → Ends → Result NextBlock Ended → Type 0
Arrives old way None new follows = (new.bench ≡ old.bench)
    × ReaderTurns (reader_times_out old.reader) new.reader follows
Arrives old (toward_card block) (Some got) new follows = (new.reader ≡ old.reader)
    × CardTakes old.bench got new.bench follows
Arrives old (toward_reader block) (Some got) new follows =
    (new.bench ≡ old.bench) × ReaderTurns (reader_step old.reader got) new.reader follows

-- the bytes of the next block
abbrev pub bytes_under_way : NextBlock → List ℕ
bytes_under_way (toward_card block) = block
bytes_under_way (toward_reader block) = block

-- One block goes on the line, and the pending faults decide what arrives.
pub record Passes (old : Ends) (way : NextBlock) (new : Ends) (follows : Result NextBlock Ended) : Type 0 where
  pub block : new.line ≡ line_after 1 old.line
  pub arrives : Arrives old way (arriving old.line 0 (bytes_under_way way)) new follows

-- Blocks pass in order until the exchange ends, or until the limit is reached.
unfoldable pub Exchanges : ℕ → Ends → NextBlock → Ends → Ended → Type 0
Exchanges zero old way new ending = (new ≡ old) × (ending ≡ link_lost)
Exchanges (suc blocks) old way new ending =
    Passes old way new (Err ending)
    ⊎ ((between : Ends) × (next : NextBlock) × Passes old way between (Ok next)
    × Exchanges blocks between next new ending)

-- The exchange after the first step of the reader's end: at most 1,000 blocks pass, or none if it ended already.
abbrev pub GoesThrough : Result NextBlock Ended → Ends → Ends → Ended → Type 0
GoesThrough (Ok first) old new ending = Exchanges LINE_BLOCKS old first new ending
GoesThrough (Err ended) old new ending = (new ≡ old) × (ending ≡ ended)

-- The exchange of a command.
abbrev pub Exchanged : Ends → List ℕ → Ends → Ended → Type 0
Exchanged old command new ending =
    let turned = reader_sends old.reader command in
    GoesThrough (following turned.outcome) (record old { reader = turned.reader }) new ending

-- the reader's end, if another command may be sent
abbrev pub left_by : Ended → Reader → Option Reader
left_by (answered answer) reader = Some reader
left_by set_back reader = Some reader
left_by link_lost reader = None
left_by power_lost reader = None

-- the output of a command
abbrev pub printed_by : Ended → Print
printed_by (answered answer) = prints_bytes answer
printed_by set_back = prints_lost
printed_by link_lost = prints_lost
printed_by power_lost = prints_dark

-- The desk: the bench, the reader's end if a command may be sent, and the line.
pub record Desk : Type 0 where
  pub bench : BenchState
  pub reader : Option Reader
  pub line : Line

-- A command at the desk. Without a reader's end nothing is sent, and the output is `lost`.
abbrev pub Commands : Desk → Option Reader → List ℕ → Desk → Print → Type 0
Commands old None command new prints = (new ≡ old) × (prints ≡ prints_lost)
Commands old (Some reader) command new prints =
    (after : Reader) × (ending : Ended)
    × Exchanged (record { bench = old.bench; reader = reader; line = old.line }) command
    (record { bench = new.bench; reader = after; line = new.line }) ending
    × (new.reader ≡ left_by ending after) × (prints ≡ printed_by ending)
