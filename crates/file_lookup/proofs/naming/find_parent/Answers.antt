use Rattle.undo_journal.specs.laws.Exits.{none_ok}
use Rattle.std.proofs.Common.{◌≡◌, ℕ, Some, sym, ◌∙◌, ap, subst, true≢false}
use Rattle.undo_journal.specs.Memory.{committed}
use Rattle.file_tree.specs.declared.entry.Entry.{Entry}
use Rattle.file_tree.specs.Table.{table, entry_in, path_of, IsUsed}
use Rattle.file_tree.specs.laws.Nodes.{used_small}
use Rattle.file_tree.specs.laws.LookUps.{above_used}
use Rattle.file_tree.specs.laws.Selecting.{parent_reached, parent_of_master}
use Rattle.undo_journal.specs.laws.Told.{reads_none, reads_handed}
use Rattle.file_lookup.proofs.naming.find_parent.Goals as goal

pub returns-then-is_master-clause-found : goal.returns-then-is_master-clause-found
returns-then-is_master-clause-found g c = parent_of_master (committed c.args.store.now) c.args.df
    (c.is_master.ensures.0 c.if-is_master.true)

pub returns-clause-found : goal.returns-clause-found
returns-clause-found g c =
    let m = committed c.args.store.now in
    let parent : c.new.result ≡ (entry_in (table m) c.args.df).parent =
    c.new.ensures ∙ ap (λ (x : Entry). x.parent) c.in_ok-entry.ensures.entry in
    ap (λ (e : ℕ). Some (path_of (table m) e)) parent
    ∙ parent_reached m c.requires.df.tree.entries c.args.df c.requires.df.used
    (λ is. true≢false (sym (c.is_master.ensures.1 is) ∙ c.if-is_master.false))

pub returns-clause-used : goal.returns-clause-used
returns-clause-used g c =
    let m = committed c.args.store.now in
    let parent : c.new.result ≡ (entry_in (table m) c.args.df).parent =
    c.new.ensures ∙ ap (λ (x : Entry). x.parent) c.in_ok-entry.ensures.entry in
    let family : ℕ → Type 0 = λ e. IsUsed (table m) e in
    subst family (sym parent) (above_used m c.requires.df.tree.entries c.args.df 0 c.requires.df.used)

pub returns-then-is_master-clause-store : goal.returns-then-is_master-clause-store
returns-then-is_master-clause-store g c =
    reads_none _ c.requires.df.ready

pub returns-in_err-entry-clause-found : goal.returns-in_err-entry-clause-found
returns-in_err-entry-clause-found g c = none_ok _ _ _ c.from_residual.ensures.1

pub returns-in_err-entry-clause-used : goal.returns-in_err-entry-clause-used
returns-in_err-entry-clause-used g c = none_ok _ _ _ c.from_residual.ensures.1

pub returns-in_err-entry-clause-store : goal.returns-in_err-entry-clause-store
returns-in_err-entry-clause-store g c =
    reads_handed _ _ _ _ c.from_residual.ensures.1 c.in_err-entry.ensures.store

pub returns-clause-store : goal.returns-clause-store
returns-clause-store g c = c.in_ok-entry.ensures.store

pub read_entry-requires : goal.read_entry-requires
read_entry-requires g c = record {
  ready = c.requires.df.ready;
  within = used_small (committed c.args.store.now) c.args.df c.requires.df.used;
}
