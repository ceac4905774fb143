-- The card model as the machine of a world: a card and its session.
use Rattle.card_model.specs.Cards.{Card, IsProper}
use Rattle.card_model.specs.Sessions.{Session}
use Rattle.card_model.specs.Steps.{answer_bytes, carried_out}
use Rattle.t1_link.specs.Worlds.{Machine}

pub record Served : Type 0 where
  pub card : Card
  pub session : Session

-- the card is proper, as a card state after recovery always is
abbrev pub IsProperState : Served → Type 0
IsProperState s = IsProper s.card

-- each command is one step of the card model
abbrev pub tree_machine : Machine Served
tree_machine = record {
  answer = λ s command. answer_bytes (carried_out s.card s.session command).response;
  next = λ s command.
      let outcome = carried_out s.card s.session command in record { card = outcome.card; session = outcome.session };
}
