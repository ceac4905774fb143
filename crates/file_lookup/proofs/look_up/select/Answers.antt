use Rattle.std.proofs.Common.{ℕ, Option, subst}
use Rattle.undo_journal.specs.Memory.{committed}
use Rattle.undo_journal.specs.laws.Exits.{none_ok}
use Rattle.undo_journal.specs.laws.Told.{reads_none, reads_handed}
use Rattle.file_tree.specs.Table.{table}
use Rattle.file_tree.specs.TreeParts.{TellsBeside}
use Rattle.file_tree.specs.laws.LookUps.{told_above_used, reached_child, reached_beside, reached_above}
use Rattle.file_lookup.proofs.look_up.select.Goals as goal

pub returns-in-Some-clause-found : goal.returns-in-Some-clause-found
returns-in-Some-clause-found g c =
    let m = committed c.args.store.now in
    reached_child m c.requires.df.file.tree.entries c.args.df c.args.identifier c.requires.df.file.used c.in-Some.child
    (c.in-Some.ensures m c.requires.df.index)

pub returns-in-Some-clause-used : goal.returns-in-Some-clause-used
returns-in-Some-clause-used g c = (c.in-Some.ensures (committed c.args.store.now) c.requires.df.index).0.used

pub returns-in-Some-clause-store : goal.returns-in-Some-clause-store
returns-in-Some-clause-store g c = reads_none _ c.requires.df.file.ready

pub returns-in_err-beside-clause-found : goal.returns-in_err-beside-clause-found
returns-in_err-beside-clause-found g c = none_ok _ _ _ c.from_residual.ensures.1

pub returns-in_err-beside-clause-used : goal.returns-in_err-beside-clause-used
returns-in_err-beside-clause-used g c = none_ok _ _ _ c.from_residual.ensures.1

pub returns-in_err-beside-clause-store : goal.returns-in_err-beside-clause-store
returns-in_err-beside-clause-store g c = reads_handed _ _ _ _ c.from_residual.ensures.1 c.in_err-beside.ensures.store

pub returns-in-Some-2-clause-found : goal.returns-in-Some-2-clause-found
returns-in-Some-2-clause-found g c =
    let m = committed c.args.store.now in
    let told : Option ℕ → Type 0 = λ o. TellsBeside (table m) c.args.df c.args.identifier o in
    reached_beside m c.requires.df.file.tree.entries c.args.df c.args.identifier c.requires.df.file.used
    c.in-Some-2.beside
    (c.in_default.ensures m c.requires.df.index) (subst told c.in-Some-2.is c.in_ok-beside.ensures.told)

pub returns-in-Some-2-clause-used : goal.returns-in-Some-2-clause-used
returns-in-Some-2-clause-used g c =
    let m = committed c.args.store.now in
    let told : Option ℕ → Type 0 = λ o. TellsBeside (table m) c.args.df c.args.identifier o in
    (subst told c.in-Some-2.is c.in_ok-beside.ensures.told).1.used

pub returns-in-Some-2-clause-store : goal.returns-in-Some-2-clause-store
returns-in-Some-2-clause-store g c = c.in_ok-beside.ensures.store

pub returns-clause-found : goal.returns-clause-found
returns-clause-found g c =
    let m = committed c.args.store.now in
    let told : Option ℕ → Type 0 = λ o. TellsBeside (table m) c.args.df c.args.identifier o in
    reached_above m c.requires.df.file.tree.entries c.args.df c.args.identifier c.requires.df.file.used
    c.find_above.result
    (c.in_default.ensures m c.requires.df.index) (subst told c.in_default-2.is c.in_ok-beside.ensures.told)
    (c.find_above.ensures m c.requires.df.file.tree.entries c.requires.df.file.used c.requires.df.index)

pub returns-clause-used : goal.returns-clause-used
returns-clause-used g c =
    let m = committed c.args.store.now in
    told_above_used m c.requires.df.file.tree.entries c.args.df c.args.identifier c.requires.df.file.used
    c.find_above.result
    (c.find_above.ensures m c.requires.df.file.tree.entries c.requires.df.file.used c.requires.df.index)

pub returns-clause-store : goal.returns-clause-store
returns-clause-store g c = c.in_ok-beside.ensures.store

pub find_beside-requires : goal.find_beside-requires
find_beside-requires g c = record { df = c.requires.df }
