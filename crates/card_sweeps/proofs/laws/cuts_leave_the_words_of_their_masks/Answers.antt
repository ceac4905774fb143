use Rattle.card_sweeps.proofs.MaskedCuts.{leaves-none, leaves-torn}
use Rattle.card_sweeps.proofs.laws.cuts_leave_the_words_of_their_masks.Goals as goal

pub returns-clause-words : goal.returns-clause-words
returns-clause-words c = leaves-torn

pub returns-clause-none : goal.returns-clause-none
returns-clause-none c = leaves-none
