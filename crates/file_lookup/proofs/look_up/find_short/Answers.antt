use Rattle.std.proofs.Common.{ℕ, List, Option, None, Some, IfSome}
use Rattle.file_tree.specs.declared.entry.Entry.{Entry}
use Rattle.file_tree.specs.Table.{table, IsChild}
use Rattle.file_tree.specs.TreeParts.{TellsShort}
use Rattle.std.proofs.Common.{◌≢◌, arith}
use Rattle.undo_journal.specs.Memory.{committed}
use Rattle.file_tree.specs.laws.Shorts.{short_named, short_found}
use Rattle.std.proofs.lemmas.Result.{IfOk-weaker}
use Rattle.file_lookup.proofs.look_up.find_short.Goals as goal

pub returns-clause-found : goal.returns-clause-found
returns-clause-found g c =
    let some : c.args.short ≢ 0 = λ none. let z : ⊥ = omega (arith, none, c.requires.some) in z in
    IfOk-weaker _ _ _ (short_named (committed c.args.store.now) c.requires.df.tree.entries c.args.df c.args.short
    c.requires.df.used some) c.first_child.ensures.told

pub returns-clause-elementary : goal.returns-clause-elementary
returns-clause-elementary g c =
    let some : c.args.short ≢ 0 = λ none. let z : ⊥ = omega (arith, none, c.requires.some) in z in
    IfOk-weaker _ _ _ (short_found (committed c.args.store.now) c.requires.df.tree.entries c.args.df c.args.short
    c.requires.df.used some) c.first_child.ensures.told

pub first_child-requires : goal.first_child-requires
first_child-requires g c = record { ready = c.requires.df.ready }

pub returns-clause-store : goal.returns-clause-store
returns-clause-store g c = c.first_child.ensures.store

-- what is told is a child
told_is_child : (t : List Entry) (df n : ℕ) (found : Option ℕ) → TellsShort t df n found → IfSome found (IsChild t df)
told_is_child t df n None told = tt
told_is_child t df n (Some e) told = told.0

pub returns-clause-child : goal.returns-clause-child
returns-clause-child g c =
    IfOk-weaker _ _ _ (told_is_child (table (committed c.args.store.now)) c.args.df c.args.short)
    c.first_child.ensures.told
