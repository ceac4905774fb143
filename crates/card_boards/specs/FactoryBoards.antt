-- A new board with the factory card.
use Rattle.std.specs.Prelude.{◌≡◌, ◌-◌, ℕ, None}
use Rattle.nvm_board.specs.Facts.{Facts, pages_of}
use Rattle.card_start.specs.declared.memory_format.MemoryFormat.TheVariants.{Two}
use Rattle.card_start.specs.Factory.{IsFactory, factory_card}
use Rattle.command_base.specs.Finding.{Finds}
use Rattle.bench_turns.specs.NewlyWritten.{IsNewlyWritten}

-- The factory card in format 2, on a new board of these pages with power. Only the writes of its making are counted,
-- and no cut is pending.
pub record IsFactoryBoard (pages : ℕ) (f : Facts) : Type 0 where
  pub card : Finds f.words (factory_card (pages - 128))
  pub words : IsFactory Two f.words
  pub size : pages_of f.words ≡ pages
  pub counts : IsNewlyWritten pages f
  pub uncut : f.pending ≡ None
