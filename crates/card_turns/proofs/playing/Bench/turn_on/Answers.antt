use Rattle.card_turns.proofs.playing.Bench.turn_on.Goals as goal

pub invariant_of-self : goal.invariant_of-self
invariant_of-self g c = c.replace_with.ensures.1

pub returns : goal.returns
returns g c = λ reply. rw (← c.self.view_is) (c.replace_with.ensures.0 reply)
