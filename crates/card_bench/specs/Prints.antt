-- The output of a script, line by line.
use Rattle.std.specs.Prelude.{◌≡◌, ℕ, Bool, List, [], ◌∷◌, ◌++◌, None, Some, true, false}
use Rattle.nvm_board.specs.Facts.{Facts}
use Rattle.simulated_boards.specs.Cut.{cut_facts}
use Rattle.simulated_boards.specs.declared.cut_board.CutBoard.{CutBoard}
use Rattle.card_start.specs.declared.memory_format.MemoryFormat.TheVariants.{Two}
use Rattle.card_start.specs.Factory.{IsFactory, factory_card}
pub use Rattle.bench_turns.specs.NewlyWritten.{IsJustWritten}
use Rattle.bench_lines.specs.Orders.{Order}
use Rattle.bench_turns.specs.BenchStates.{bench_card, bench_facts, off, IsOff}
use Rattle.card_bench.specs.Exchanges.{Desk}
use Rattle.bench_lines.specs.Orders.{order_of}
use Rattle.card_bench.specs.Lines.{perfect_line}
use Rattle.card_bench.specs.Charges.{RunsLine}
use Rattle.bench_turns.specs.Plays.{IsGood}
use Rattle.bench_lines.specs.Printouts.{Print, text_of}

-- Lines that run in order, each after the charge that it owes, and their concatenated output. After each of them the
-- bench's memory has a card state after recovery, and it never had a fault. `Stored` holds of the board's facts before
-- each order that can compare, and `Kept` of those after each line with output.
unfoldable pub PrintsLines : (Facts → Type 0) → (Facts → Type 0) → Desk → List (List ℕ) → Desk → List ℕ → Type 0
PrintsLines Stored Kept old [] new out = (new ≡ old) × (out ≡ [])
PrintsLines Stored Kept old (line ∷ others) new out =
    (order : Order) × (between : Desk) × (prints : Print) × (rest : List ℕ)
    × (order_of line ≡ Some order) × RunsLine Stored Kept order old between prints × IsGood between.bench
    × PrintsLines Stored Kept between others new rest × (out ≡ text_of prints ++ rest)

-- There is a board with these facts, whose follower has all writes. Code for any board knows this only by asking the
-- one that it runs on: a copy without the follower lacks its writes (unfollowed_copy).
abbrev pub LacksNoWrite : (B : Type 0) → (B → Facts) → (B → Bool) → Facts → Type 0
LacksNoWrite B facts has_kept f = (board : B) × (facts board ≡ f) × (has_kept board ≡ true)

-- the facts of a board that nothing follows
abbrev pub IsUnfollowed : Facts → Type 0
IsUnfollowed f = LacksNoWrite CutBoard cut_facts (λ board. true) f

-- The first desk: the factory card in format 2 on a new board of 896 blocks, power off, and no pending faults on the
-- line. But for power, the board is as the card was made on it.
pub record IsFirstDesk (d : Desk) : Type 0 where
  pub power : IsOff d.bench
  pub good : IsGood d.bench
  pub card : bench_card d.bench ≡ factory_card 896
  pub words : IsFactory Two (bench_facts d.bench).words
  pub counts : IsJustWritten (record (bench_facts d.bench) { dark = false })
  pub reader : d.reader ≡ None
  pub line : d.line ≡ perfect_line

-- the desk at which a script begins on a board: power off, no reader, and no pending faults on the line
abbrev pub desk_of : Facts → Desk
desk_of f = record {
  bench = off (record f { dark = true });
  reader = None;
  line = perfect_line;
}

-- the output of these lines, from this desk on, where `Keeps` holds of the board's facts
pub record LinesPrint (Keeps : Facts → Type 0) (first : Desk) (some : List (List ℕ)) (out : List ℕ) : Type 0 where
  pub last : Desk
  pub all : PrintsLines Keeps Keeps first some last out
