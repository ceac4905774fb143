use Rattle.std.proofs.Common.{lit<, ◌∙◌, ap}
use Rattle.undo_journal.specs.laws.Exits.{none_ok}
use Rattle.undo_journal.specs.laws.Told.{reads_handed}
use Rattle.card_model.specs.RecordLists.{stands_in}
use Rattle.ef_body.proofs.search.record_holds.Goals as goal

pub read_from-requires : goal.read_from-requires
read_from-requires g c =
    (lit< tt, (c.requires.body, (c.requires.body.body.slots.short, c.requires.block)))

pub returns-in_err-read_from-clause-holds : goal.returns-in_err-read_from-clause-holds
returns-in_err-read_from-clause-holds g c = record {
  told = none_ok _ _ _ c.from_residual.ensures.1;
  store = reads_handed _ _ _ _ c.from_residual.ensures.1 c.in_err-read_from.ensures.record.store;
}

pub returns-clause-block : goal.returns-clause-block
returns-clause-block g c = c.in_ok-read_from.ensures.block

pub returns-clause-holds : goal.returns-clause-holds
returns-clause-holds g c = record {
  told = c.stands.ensures ∙ ap (stands_in c.args.text.now) (c.deref.ensures.0 ∙ c.in_ok-read_from.ensures.record.bytes);
  store = c.in_ok-read_from.ensures.record.store;
}
