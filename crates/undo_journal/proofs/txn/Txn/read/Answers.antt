use Rattle.std.proofs.Common.{refl}
use Rattle.undo_journal.specs.Memory.{IsOpen}
use Rattle.undo_journal.proofs.Noted.{unless_failed}
use Rattle.undo_journal.proofs.txn.Txn.read.Goals as goal

pub returns-clause-word : goal.returns-clause-word
returns-clause-word g c = c.read.ensures.word

pub returns-clause-store : goal.returns-clause-store
returns-clause-store g c = record {
  only = record { same_store = refl; reads = c.read.ensures.reads };
  ready = unless_failed (IsOpen c.read.new.self) c.read.result c.read.ensures.usable;
  tells = c.read.ensures.tells;
}

pub returns-clause-dark : goal.returns-clause-dark
returns-clause-dark g c = c.read.ensures.dark
