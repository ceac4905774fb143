use Rattle.std.proofs.Common.{arith}
use Rattle.undo_journal.specs.laws.LastWrites.{last_written}
use Rattle.undo_journal.proofs.Telling.{write_costs}
use Rattle.undo_journal.proofs.journal.write_pairs.Goals as goal

pub returns-clause-writes : goal.returns-clause-writes
returns-clause-writes g c = write_costs _ _ _ _ _ (omega arith) c.write.ensures

pub returns-clause-between : goal.returns-clause-between
returns-clause-between g c = last_written _ _ _ _ _ c.write.ensures
