-- Laws of calls that leave a board powered, with no fault.
use Rattle.std.specs.Prelude.{Ok}
use Rattle.nvm_board.specs.Facts.{Facts, Answered, Steady}

-- an answer that is no error reports only that the call went well
pub answered_ok : {T : Type 0} (old new : Facts) (x : T) → Steady old new → Answered old new (Ok x)
answered_ok old new x steady = record { ok = λ h. steady; lost = λ h. absurd cc; fault = λ h. absurd cc }
