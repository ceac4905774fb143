-- What the exchange makes of what the reader's end says: its block stands in the buffer, and its answer in itself.
use Rattle.std.specs.Prelude.{◌≡◌, ◌≢◌, ◌==◌, ℕ, Bool, true, false, nat_lt, List, [], ◌↔◌, Ok, IfErr}
use Rattle.std.specs.Prelude.{OnOk, if◌then◌else◌}
use Rattle.std.proofs.Common.{◌∙◌, ap}
use Rattle.t1_link.specs.declared.block.ErrorKind.TheVariants.{OtherError}
use Rattle.t1_link.specs.declared.reader_end.Next.{Next}
use Rattle.t1_link.specs.declared.reader_end.Next.TheVariants.{Send, Done, Unknown, Failed}
use Rattle.t1_link.specs.declared.reader_end.Failure.TheVariants.{LinkLost}
use Rattle.t1_link.specs.declared.reader_end.Phase.{Phase}
use Rattle.t1_link.specs.declared.reader_end.Phase.TheVariants.{Busy}
use Rattle.t1_link.specs.ReaderFields.{HasAnswer, IsSend, left_in, next_of}
use Rattle.t1_link.specs.ReaderTable.{CommandReport, Reader, Turned, advancing, asking, failing, fails, gives}
use Rattle.t1_link.specs.ReaderTable.{is_dead, reader_sends}
use Rattle.t1_link.specs.ReaderTable.{reader_times_out, requesting, requesting_again, sends, unknown}
use Rattle.card_bench.specs.declared.reader_turns.Blocks.{Blocks}
use Rattle.card_bench.specs.Exchanges.{following, toward_card}
use Rattle.card_bench.specs.ExchangeValues.{flow_of, follows_of}

pub follows-so : (o : CommandReport) (next : Next) (blocks : Blocks) (held : List ℕ) (reader : Reader)
    → next ≡ next_of o
    → blocks.toward_card ≡ left_in o held → HasAnswer o reader
    → follows_of (flow_of next) blocks reader.answer ≡ following o
follows-so (sends b) next blocks held reader said block kept =
    ap (λ (n : Next). follows_of (flow_of n) blocks reader.answer) said ∙ ap (λ (l : List ℕ). Ok (toward_card l)) block
follows-so (gives given) next blocks held reader said block kept =
    ap (λ (n : Next). follows_of (flow_of n) blocks reader.answer) said ∙ ap (λ (l : List ℕ). following (gives l)) kept
follows-so unknown next blocks held reader said block kept =
    ap (λ (n : Next). follows_of (flow_of n) blocks reader.answer) said
follows-so (fails failure) next blocks held reader said block kept =
    ap (λ (n : Next). follows_of (flow_of n) blocks reader.answer) said

-- a command is in hand exactly where another block follows
pub busy-so : (next : Next) (blocks : Blocks) (answer : List ℕ) (phase : Phase) → IsSend next ↔ (phase ≡ Busy)
    → OnOk (follows_of (flow_of next) blocks answer) (phase ≡ Busy)
busy-so Send blocks answer phase hand = hand.0 tt
busy-so Done blocks answer phase hand = tt
busy-so Unknown blocks answer phase hand = tt
busy-so (Failed failure) blocks answer phase hand = tt

pub idle-so : (next : Next) (blocks : Blocks) (answer : List ℕ) (phase : Phase) → IsSend next ↔ (phase ≡ Busy)
    → IfErr (follows_of (flow_of next) blocks answer) (λ ended. phase ≢ Busy)
idle-so Send blocks answer phase hand = tt
idle-so Done blocks answer phase hand = hand.1
idle-so Unknown blocks answer phase hand = hand.1
idle-so (Failed failure) blocks answer phase hand = hand.1

-- nothing is answered to a command, and not in vain either
kept-if : (test : Bool) (one other : Turned) (reader : Reader) → HasAnswer one.outcome reader
    → HasAnswer other.outcome reader → HasAnswer (if test then one else other).outcome reader
kept-if true one other reader a b = a
kept-if false one other reader a b = b

pub kept-sends : (r reader : Reader) (command : List ℕ) → HasAnswer (reader_sends r command).outcome reader
kept-sends r reader command = kept-if (is_dead r.phase) (record { reader = r; outcome = fails LinkLost })
    (advancing (record r { answer = []; phase = Busy }) command) reader tt tt

pub kept-times_out : (r reader : Reader) → HasAnswer (reader_times_out r).outcome reader
kept-times_out r reader = kept-if (r.resynchs == 0) (asking r OtherError) (requesting_again r) reader
    (kept-if (nat_lt r.tries 3) _ (requesting r) reader tt tt)
    (kept-if (nat_lt r.resynchs 3) (requesting r) (failing r LinkLost) reader tt tt)
