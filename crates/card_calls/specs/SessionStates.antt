-- The state of a `Session`.
use Rattle.std.specs.Prelude.{ℕ, ℤ, Bool, false, Option, None, is_some}
use Rattle.nvm_board.specs.Facts.{Facts}
use Rattle.nvm_board.specs.History.{Run}
use Rattle.bench_lines.specs.Orders.{Order}
use Rattle.bench_turns.specs.BenchStates.{bench_facts}
use Rattle.card_bench.specs.Exchanges.{Desk}
use Rattle.card_bench.specs.Prints.{desk_of}
use Rattle.card_calls.specs.Devices.{begun_log}

-- An order that is to run next, and the first write that it makes, if it makes one.
pub record Announcement : Type 0 where
  pub order : Order
  pub first : Option Run

-- The desk; whether its device didn't take a write; how many writes the device has of all that were made, modulo 2^64;
-- the order whose first write was handed out, until an order runs; and the device's number, if there is one.
pub record SessionState : Type 0 where
  pub desk : Desk
  pub behind : Bool
  pub stored : ℕ
  pub announced : Option Announcement
  pub device : Option ℤ

-- the facts of a session's board
abbrev pub session_facts : SessionState → Facts
session_facts s = bench_facts s.desk.bench

-- The first state of a card on a board, which may have a device: power off, no reader, and no pending fault of the
-- line. The device has all words, and its log is empty.
abbrev pub begun_at : Facts → Option ℤ → SessionState
begun_at facts device = record {
  desk = desk_of (record facts { log = begun_log (is_some device) facts.words });
  behind = false;
  stored = 0;
  announced = None;
  device = device;
}
