-- How far the counters of a board are from their limit, at which power is lost or power-on fails.
use Rattle.std.specs.Prelude.{◌<◌, ◌+◌, ℕ, All}
use Rattle.nvm_board.specs.declared.board.TheConstants.{COUNT_END}
use Rattle.nvm_board.specs.Facts.{Facts}

-- after n more steps no counter is at its limit
pub record HasLeft (n : ℕ) (f : Facts) : Type 0 where
  pub faults : f.faults + n < COUNT_END
  pub cuts : f.cuts + n < COUNT_END
  pub writes : f.writes + n < COUNT_END
  pub compares : All (λ c. c + n < COUNT_END) f.compares
  pub matches : All (λ c. c + n < COUNT_END) f.matches
