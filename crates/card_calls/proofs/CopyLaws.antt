-- The bytes of a desk's result in a caller's buffer.
use Rattle.std.specs.Prelude.{ℕ, List}
use Rattle.card_bench.specs.DeskStates.{DeskState, bytes_at, printed_at}
use Rattle.card_bench.specs.declared.line_result.LineResult.{LineResult}
use Rattle.card_bench.specs.declared.line_result.LineResult.TheVariants as line
use Rattle.card_calls.specs.Telling.{Copies, CopiesOut}

-- they are those of the output
pub copies_at : (result : LineResult) (d : DeskState) (old new : List ℕ) (size : ℕ)
    → CopiesOut (bytes_at result d) old new size → Copies old new size (printed_at result d)
copies_at line.Nothing d old new size copied = (copied.size_is, copied.rest)
copies_at line.Atr d old new size copied = (copied.size_is, copied.rest)
copies_at line.Mute d old new size copied = (copied.size_is, copied.rest)
copies_at line.Dark d old new size copied = (copied.size_is, copied.rest)
copies_at line.Lost d old new size copied = (copied.size_is, copied.rest)
copies_at line.Answer d old new size copied = copied
copies_at line.Block d old new size copied = copied
copies_at (line.Free free) d old new size copied = (copied.size_is, copied.rest)
