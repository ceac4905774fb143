use Rattle.std.proofs.Common.{rules}
use Rattle.card_turns.proofs.playing_on_sectors.play_on_sectors.Goals as goal

pub returns-in-Ok-clause-plays : goal.returns-in-Ok-clause-plays
returns-in-Ok-clause-plays g c = record {
  last = c.play.new.self;
  words = search rules;
  due = search rules;
  has_card = search rules;
  counts = search rules;
  guesses = search rules;
  faults = search rules;
  runs = search rules;
  faulty = search rules;
  costs = search rules;
}
