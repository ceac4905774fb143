-- The free space where the words stay.
use Rattle.std.proofs.Common.{◌≡◌, ℕ, List, ap}
use Rattle.undo_journal.specs.Memory.{committed, Memory}
use Rattle.card_model.specs.Cards.{card_space}
use Rattle.command_base.specs.Standing.{card_of}
use Rattle.command_base.specs.Working.{space_in}

pub space-same : (old new : Memory) → committed new ≡ committed old → space_in new ≡ space_in old
space-same old new same = ap (λ (l : List ℕ). card_space (card_of l)) same
