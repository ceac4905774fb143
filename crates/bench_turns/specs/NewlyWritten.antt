-- The power and the counters of a new board with a card.
use Rattle.std.specs.Prelude.{◌≡◌, ◌≤◌, ℕ, false, replicate}
use Rattle.nvm_board.specs.declared.board.TheConstants.{LEAST_PAGES, SECRETS}
use Rattle.nvm_board.specs.Facts.{Facts}

-- A new board of these pages with a card image has power, and no cut is due. It has counted at most one device write
-- a page, and nothing else.
pub record IsNewlyWritten (pages : ℕ) (f : Facts) : Type 0 where
  pub lit : f.dark ≡ false
  pub due : f.due ≡ 0
  pub faults : f.faults ≡ 0
  pub cuts : f.cuts ≡ 0
  pub writes : f.writes ≤ pages
  pub compares : f.compares ≡ replicate SECRETS 0
  pub matches : f.matches ≡ replicate SECRETS 0

-- the same of 1,024 pages
abbrev pub IsJustWritten : Facts → Type 0
IsJustWritten f = IsNewlyWritten LEAST_PAGES f
