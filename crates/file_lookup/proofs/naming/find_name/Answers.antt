use Rattle.std.proofs.lemmas.Result.{IfOk-weaker}
use Rattle.undo_journal.specs.Memory.{committed}
use Rattle.file_tree.specs.Table.{table}
use Rattle.file_tree.specs.laws.Selecting.{name_reached, named_is_used}
use Rattle.file_lookup.proofs.naming.find_name.Goals as goal

pub returns-clause-found : goal.returns-clause-found
returns-clause-found g c =
    IfOk-weaker _ _ _ (name_reached (committed c.args.store.now) c.requires.tree.tree.entries c.args.name.now)
    c.first_named.ensures.told

pub returns-clause-used : goal.returns-clause-used
returns-clause-used g c =
    IfOk-weaker _ _ _ (named_is_used (table (committed c.args.store.now)) c.args.name.now) c.first_named.ensures.told

pub returns-clause-named : goal.returns-clause-named
returns-clause-named g c = c.first_named.ensures.told

pub returns-clause-store : goal.returns-clause-store
returns-clause-store g c = c.first_named.ensures.store
