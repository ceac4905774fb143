use Rattle.std.proofs.Common.{ap, rules}
use Rattle.nvm_board.specs.Facts.{Facts}
use Rattle.card_turns.proofs.playing.Power.darken.Goals as goal

pub returns-clause-off : goal.returns-clause-off
returns-clause-off g c = search rules

pub returns-clause-kept : goal.returns-clause-kept
returns-clause-kept g c = ap (λ (f : Facts). f.dark) c.into_dark_board.ensures
