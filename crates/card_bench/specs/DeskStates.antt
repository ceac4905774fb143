-- The state of a `Desk`, from its fields.
use Rattle.std.specs.Prelude.{ℕ, Bool, true, false, List, [], Option, None, Some}
use Rattle.t1_link.specs.ReaderTable.{Reader}
use Rattle.card_bench.specs.declared.line_result.LineResult.{LineResult}
use Rattle.card_bench.specs.declared.line_result.LineResult.TheVariants.{Nothing, Atr, Mute, Dark, Lost, Answer}
use Rattle.card_bench.specs.declared.line_result.LineResult.TheVariants.{Block, Free}
use Rattle.card_bench.specs.Exchanges.{Desk}
use Rattle.bench_lines.specs.Printouts.{Print, prints_atr, prints_bytes, prints_dark, prints_free, prints_lost}
use Rattle.bench_lines.specs.Printouts.{prints_mute, prints_nothing}

-- the desk, the answer to the last command, and the block that returned last
pub record DeskState : Type 0 where
  pub desk : Desk
  pub answer : List ℕ
  pub block : List ℕ

-- the reader's end, if a command may be sent
abbrev pub reader_there : Bool → Reader → Option Reader
reader_there false reader = None
reader_there true reader = Some reader

-- the output of a result, with the answer to the last command and the last returned block
abbrev pub print_of : LineResult → List ℕ → List ℕ → Print
print_of Nothing answer block = prints_nothing
print_of Atr answer block = prints_atr
print_of Mute answer block = prints_mute
print_of Dark answer block = prints_dark
print_of Lost answer block = prints_lost
print_of Answer answer block = prints_bytes answer
print_of Block answer block = prints_bytes block
print_of (Free free) answer block = prints_free free

-- the output of the result of a desk's last line
abbrev pub printed_at : LineResult → DeskState → Print
printed_at r d = print_of r d.answer d.block

-- the bytes of the result of a desk's last line; none if it has none
abbrev pub bytes_at : LineResult → DeskState → List ℕ
bytes_at Nothing d = []
bytes_at Atr d = []
bytes_at Mute d = []
bytes_at Dark d = []
bytes_at Lost d = []
bytes_at Answer d = d.answer
bytes_at Block d = d.block
bytes_at (Free free) d = []
