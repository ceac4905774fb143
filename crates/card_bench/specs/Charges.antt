-- The charge of an order that can compare a PIN: its first device write, as a second desk makes it.
use Rattle.std.specs.Prelude.{◌≡◌, ◌≢◌, ◌⊎◌, ◌<◌, ◌==◌, ◌||◌, ℕ, List, Bool, true, Option, None, Some, IsTrue}
use Rattle.std.specs.Prelude.{is_some, length, slice_index}
use Rattle.nvm_board.specs.Facts.{Facts}
use Rattle.nvm_board.specs.History.{Log}
use Rattle.nvm_board.specs.declared.board.Arm.{Arm}
use Rattle.bench_lines.specs.Orders.{Order, Nothing, On, Off, Free, Apdu, Block, Cut, Lose, Garble}
use Rattle.bench_lines.specs.Printouts.{Print, prints_nothing}
use Rattle.bench_turns.specs.BenchStates.{bench_facts, with_facts}
use Rattle.bench_turns.specs.Guessing.{GuessesFew}
use Rattle.bench_turns.specs.Plays.{IsGood}
use Rattle.card_bench.specs.Exchanges.{Desk}
use Rattle.card_bench.specs.Performing.{Performs}
use Rattle.card_bench.specs.declared.charge.TheConstants.{ALL_WORDS}

-- the instructions that can compare a PIN: VERIFY, CHANGE, DISABLE, ENABLE and RESET RETRY COUNTER (ISO/IEC 7816-4)
abbrev pub is_pin_instruction : ℕ → Bool
is_pin_instruction ins = (ins == 0x20) || (ins == 0x24) || (ins == 0x26) || (ins == 0x28) || (ins == 0x2C)

-- an order that can compare a PIN: a command of such an instruction, or a block, which can end one
abbrev pub MayCompare : Order → Type 0
MayCompare Nothing = ⊥
MayCompare On = ⊥
MayCompare Off = ⊥
MayCompare Free = ⊥
MayCompare (Apdu command) = (1 < length command) × IsTrue (is_pin_instruction (slice_index command 1))
MayCompare (Block block) = Unit
MayCompare (Cut number mask) = ⊥
MayCompare (Lose number) = ⊥
MayCompare (Garble number) = ⊥

-- a cut falls into the next write
abbrev pub CutsNext : Option Arm → Type 0
CutsNext None = ⊥
CutsNext (Some arm) = arm.whole_writes ≡ 0

-- a desk in the same state, whose board has this log
abbrev pub twin_desk : Desk → Option Log → Desk
twin_desk was log = record was { bench = with_facts was.bench (record (bench_facts was.bench) { log = log }) }

-- An order runs on a second desk with this log, which loses power at its first write. These words are then in its
-- memory. The guess law holds of them.
pub record RunsToFirst (order : Order) (was : Desk) (log : Option Log) (words : List ℕ) : Type 0 where
  pub armed : Desk
  pub quiet : Print
  pub cut : Performs (Cut 1 ALL_WORDS) (twin_desk was log) armed quiet
  pub left : Desk
  pub prints : Print
  pub runs : Performs order armed left prints
  pub good : IsGood left.bench
  pub guesses : GuessesFew was.bench left.bench
  pub leaves : (bench_facts left.bench).words ≡ words

-- An order owes a charge: it can compare, the board's follower has a log, and no cut falls into the next write.
abbrev pub Owes : Order → Desk → Type 0
Owes order was = MayCompare order × (is_some (bench_facts was.bench).log ≡ true)
    × ¬ CutsNext (bench_facts was.bench).pending

-- The follower takes the first write of an order before the order runs: its log is that of a desk in the same state
-- that ran the order and lost power in this write. Nothing else changes.
pub record TakesCharge (order : Order) (was now : Desk) : Type 0 where
  pub words : List ℕ
  pub first : RunsToFirst order was (bench_facts was.bench).log words
  pub same : now ≡ twin_desk was (bench_facts first.left.bench).log

-- a desk at which the follower took the charge of an order, if the order owes one
abbrev pub IsCharged : Order → Desk → Desk → Type 0
IsCharged order was now = ((now ≡ was) × ¬ Owes order was) ⊎ TakesCharge order was now

-- These are the facts of the board of a desk at which the charge of an order is not stored: those before the order, or
-- those with its charge, which the follower of this board did not take.
abbrev pub IsUncharged : Order → Desk → Facts → Type 0
IsUncharged order was f = (f ≡ bench_facts was.bench)
    ⊎ ((charged : Desk) × TakesCharge order was charged × (f ≡ bench_facts charged.bench))

-- A board for the second desk of a charge, if there is one: it has as many words as these, and no log. Boards of its
-- kind can be copied. Without one there is no log.
abbrev pub HasSecond : {B : Type 0} → (B → Facts) → Bool → Option B → Facts → Type 0
HasSecond facts can_copy None f = f.log ≡ None
HasSecond facts can_copy (Some second) f = (can_copy ≡ true) × (length (facts second).words ≡ length f.words)
    × ((facts second).log ≡ None)

-- no statement about facts
abbrev pub AnyFacts : Facts → Type 0
AnyFacts f = Unit {0}

-- An order of a line runs, after the charge that it owes. `Stored` holds of the board's facts before an order that can
-- compare runs, and `Kept` of those after it, if the line has output.
pub record RunsLine (Stored Kept : Facts → Type 0) (order : Order) (old new : Desk) (prints : Print) : Type 0 where
  pub charged : Desk
  pub charge : IsCharged order old charged
  pub stored : MayCompare order → Stored (bench_facts charged.bench)
  pub performs : Performs order charged new prints
  pub kept : prints ≢ prints_nothing → Kept (bench_facts new.bench)
