-- What turns at the desk are to a script: power off, and a block straight to the card's end.
use Rattle.std.proofs.Common.{◌≡◌, ◌∙◌, ap, Bool, List, ℕ, None, Some, Bor}
use Rattle.t1_link.specs.ReaderTable.{Reader, fresh_reader}
use Rattle.bench_turns.specs.TurnResults.{is_started}
use Rattle.bench_turns.specs.Plays.{TellsItem}
use Rattle.bench_turns.specs.declared.turn_result.TurnResult.{TurnResult}
use Rattle.bench_turns.specs.declared.turn_result.TurnResult.TheVariants as turned
use Rattle.card_bench.specs.DeskStates.{reader_there}
use Rattle.bench_turns.specs.declared.turn.Turn.{Turn}
use Rattle.bench_turns.specs.declared.turn.Turn.TheVariants as turn
use Rattle.bench_turns.specs.declared.turn.Item.{Item}
use Rattle.bench_turns.specs.declared.turn.Item.TheVariants.{Atr, Quiet, Mute, Dark, Reply}
use Rattle.bench_turns.specs.BenchStates.{BenchState, off, on}
use Rattle.card_bench.specs.Exchanges.{Desk}
use Rattle.card_bench.specs.Performing.{PerformsBlock, PerformsOff, TakesTurn, reader_after, shown}
use Rattle.bench_lines.specs.Printouts.{Print}
use Rattle.bench_turns.specs.Turns.{GoodTurn, TakesBlock}

-- nothing comes of power off
off-by : (old new : Desk) (prints : Print) (came : Item) → GoodTurn old.bench turn.Off came new.bench
    → new.reader ≡ reader_after came → new.line ≡ old.line → prints ≡ shown came → PerformsOff old new prints
off-by old new prints Atr good reader line printed = absurd good.one
off-by old new prints Quiet good reader line printed =
    record { turn = good; reader = reader; line = line; printed = printed }
off-by old new prints Mute good reader line printed = absurd good.one
off-by old new prints Dark good reader line printed = absurd good.one
off-by old new prints (Reply block) good reader line printed = absurd good.one

pub off_taken : (old new : Desk) (prints : Print) → TakesTurn turn.Off old new prints → PerformsOff old new prints
off_taken old new prints taken = off-by old new prints taken.outcome taken.turn taken.reader taken.line taken.printed

-- no card starts by a block
none-started : (old new : BenchState) (got : List ℕ) (came : Item) → TakesBlock old got came new
    → reader_after came ≡ None
none-started (off facts) new got Atr one = absurd one
none-started (on powered) new got Atr one = absurd one
none-started old new got Quiet one = λ i. None
none-started old new got Mute one = λ i. None
none-started old new got Dark one = λ i. None
none-started old new got (Reply block) one = λ i. None

pub block_taken : (old new : Desk) (got : Bor (List ℕ)) (prints : Print) → TakesTurn (turn.Block got) old new prints
    → PerformsBlock old got.now new prints
block_taken old new got prints taken = record {
  outcome = taken.outcome;
  turn = record {
    one = taken.turn.one;
    counts = taken.turn.counts;
    wears = taken.turn.wears;
    guesses = taken.turn.guesses;
    ahead = taken.turn.ahead;
  };
  reader = taken.reader ∙ none-started old.bench new.bench got.now taken.outcome taken.turn.one;
  line = taken.line;
  printed = taken.printed;
}

-- a turn at the desk, from its result at the bench
pub turn-taken : (r : TurnResult) (answer block : List ℕ) (taken : Turn) (old new : Desk) (prints : Print)
    (started : Bool) (reader : Reader) → started ≡ is_started r → reader ≡ fresh_reader
    → TellsItem r block (λ i. GoodTurn old.bench taken i new.bench) → TellsItem r block (λ i. prints ≡ shown i)
    → new.reader ≡ reader_there started reader → new.line ≡ old.line → TakesTurn taken old new prints
turn-taken turned.Atr answer block taken old new prints started reader said fresh good printed there line = record {
  outcome = Atr;
  turn = good;
  reader = there ∙ ap (λ (b : Bool). reader_there b reader) said ∙ ap (λ (r : Reader). Some r) fresh;
  line = line;
  printed = printed;
}
turn-taken turned.Quiet answer block taken old new prints started reader said fresh good printed there line = record {
  outcome = Quiet;
  turn = good;
  reader = there ∙ ap (λ (b : Bool). reader_there b reader) said;
  line = line;
  printed = printed;
}
turn-taken turned.Mute answer block taken old new prints started reader said fresh good printed there line = record {
  outcome = Mute;
  turn = good;
  reader = there ∙ ap (λ (b : Bool). reader_there b reader) said;
  line = line;
  printed = printed;
}
turn-taken turned.Dark answer block taken old new prints started reader said fresh good printed there line = record {
  outcome = Dark;
  turn = good;
  reader = there ∙ ap (λ (b : Bool). reader_there b reader) said;
  line = line;
  printed = printed;
}
turn-taken turned.Reply answer block taken old new prints started reader said fresh good printed there line = record {
  outcome = Reply block;
  turn = good;
  reader = there ∙ ap (λ (b : Bool). reader_there b reader) said;
  line = line;
  printed = printed;
}
