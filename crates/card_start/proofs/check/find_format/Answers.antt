use Rattle.undo_journal.specs.laws.Calls.{reads_then}
use Rattle.undo_journal.specs.laws.Exits.{none_ok}
use Rattle.undo_journal.specs.laws.Told.{reads_handed, reads_on}
use Rattle.card_start.proofs.check.find_format.Goals as goal

pub returns-in_err-mark : goal.returns-in_err-mark
returns-in_err-mark g c = record {
  told = none_ok _ _ _ c.from_residual.ensures.1;
  store = reads_handed _ _ _ _ c.from_residual.ensures.1 c.in_err-mark.ensures.store;
}

pub returns-in_err-end : goal.returns-in_err-end
returns-in_err-end g c = record {
  told = none_ok _ _ _ c.from_residual-in_err-end.ensures.1;
  store = reads_handed _ _ _ _ c.from_residual-in_err-end.ensures.1
      (reads_on _ _ _ _ c.header_word.ensures.store.only c.in_err-end.ensures.store);
}

pub returns-in_err-state : goal.returns-in_err-state
returns-in_err-state g c = record {
  told = none_ok _ _ _ c.from_residual-in_err-state.ensures.1;
  store = reads_handed _ _ _ _ c.from_residual-in_err-state.ensures.1
      (reads_on _ _ _ _ (reads_then _ _ _ c.header_word.ensures.store.only c.header_word-2.ensures.store.only)
      c.in_err-state.ensures.store);
}
