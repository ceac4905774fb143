use Rattle.std.proofs.Common.{refl}
use Rattle.undo_journal.specs.laws.Calls.{reads_same, reads_sets}
use Rattle.migration.proofs.migrating.set_first.Goals as goal

pub returns-then-end-eq-OLD_END_PAGE-clause-store : goal.returns-then-end-eq-OLD_END_PAGE-clause-store
returns-then-end-eq-OLD_END_PAGE-clause-store g c = record {
  sets = reads_sets _ _ _ (record { same_store = refl; reads = reads_same _ });
  ready = c.requires.ready;
  tells = c.requires.ready.works;
}
