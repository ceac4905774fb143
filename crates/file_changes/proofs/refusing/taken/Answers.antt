use Rattle.undo_journal.specs.laws.Exits.{none_ok}
use Rattle.std.proofs.Common.{◌≡◌, Bool, List, ℕ, [], ◌∷◌, ◌++◌, Option, is_some, refl, sym, ◌∙◌, ap, subst}
use Rattle.undo_journal.specs.Memory.{committed}
use Rattle.card_model.specs.FileControl.{name_bytes, short_of_kind, IsShort}
use Rattle.card_model.specs.declared.fcp.ShortIdentifier.{ShortIdentifier}
use Rattle.file_tree.specs.declared.entry.Entry.{Entry}
use Rattle.card_model.specs.FileTrees.{exists}
use Rattle.file_tree.specs.Table.{table, path_of, IsTable}
use Rattle.file_tree.specs.Trees.{tree_of}
use Rattle.card_model.specs.NewFiles.{has_name, has_short_given}
use Rattle.file_tree.specs.Naming.{TellsNamed}
use Rattle.file_tree.specs.laws.Refusing.{child_told, name_told}
use Rattle.file_changes.specs.laws.Allowed.{taken_is, creatable_short}
use Rattle.undo_journal.specs.laws.Told.{reads_handed, reads_on}
use Rattle.file_lookup.specs.laws.StoredFiles.{file_still}
use Rattle.file_changes.proofs.refusing.taken.Goals as goal

-- whether a name is taken, by what a look-up in the entries that were read found
name_is_taken : (m : List ℕ) → IsTable (table m) → (entries : List Entry) (name text : List ℕ) (found : Option ℕ)
    (taken : Bool) → entries ≡ table m → text ≡ name → taken ≡ is_some found → TellsNamed entries text found
    → has_name (tree_of m) name ≡ taken
name_is_taken m rules entries name text found taken read same is told =
    let of_text : List ℕ → Type 0 = λ bytes. TellsNamed (table m) bytes found in
    let of_entries : List Entry → Type 0 = λ t. TellsNamed t text found in
    name_told m rules name found (subst of_text same (subst of_entries read told)) ∙ sym is

pub returns-in_err-named : goal.returns-in_err-named
returns-in_err-named g c = record {
  told = none_ok _ _ _ c.from_residual.ensures.1;
  store = reads_handed _ _ _ _ c.from_residual.ensures.1 c.in_err-named.ensures.store;
}

pub is_short_taken-requires-clause-short : goal.is_short_taken-requires-clause-short
is_short_taken-requires-clause-short g c =
    let family : ShortIdentifier → Type 0 = λ s. IsShort s in
    subst family (sym c.short.ensures) (creatable_short c.args.fcp.now.kind c.requires.fcp.ranges.kind)

pub returns : goal.returns
returns g c = record {
  told = let m = committed c.args.store.now in
      let rules = c.requires.df.file.tree.entries in
      let tree = tree_of m in
      let path = path_of (table m) c.args.df in
      let fcp = c.args.fcp.now in
      let child : exists tree (path ++ fcp.identifier ∷ []) ≡ c.is_some.result =
      child_told m rules c.args.df fcp.identifier c.child-child.result c.requires.df.file.used
      (c.child-child.ensures m c.requires.df.index)
      ∙ sym c.is_some.ensures in
      let named : has_name tree (name_bytes fcp.kind) ≡ c.is_some-2.result =
      name_is_taken m rules (table m) (name_bytes fcp.kind) _ c.in_ok-named.named c.is_some-2.result refl c.name.ensures
      c.is_some-2.ensures c.in_ok-named.ensures.named in
      let short : has_short_given tree path (short_of_kind fcp.kind) ≡ c.in_ok-short.short =
      sym (c.in_ok-short.ensures.told
      ∙ ap (λ (l : List ℕ). has_short_given (tree_of l) (path_of (table l) c.args.df) c.short.result)
      c.find_name.ensures.store.only.keeps.committed_words
      ∙ (λ i. has_short_given tree path (c.short.ensures i))) in
      c.first_taken.ensures ∙ sym (taken_is tree path fcp _ _ _ child named short);
  store = reads_on _ _ _ _ c.find_name.ensures.store.only c.in_ok-short.ensures.store;
}

pub returns-in_err-short : goal.returns-in_err-short
returns-in_err-short g c = record {
  told = none_ok _ _ _ c.from_residual-in_err-short.ensures.1;
  store = reads_handed _ _ _ _ c.from_residual-in_err-short.ensures.1
      (reads_on _ _ _ _ c.find_name.ensures.store.only c.in_err-short.ensures.store);
}

pub is_short_taken-requires-clause-df : goal.is_short_taken-requires-clause-df
is_short_taken-requires-clause-df g c =
    file_still _ _ _ c.find_name.ensures.store.only c.in_ok-named.ensures.store.ready c.requires.df.file

pub find_name-requires : goal.find_name-requires
find_name-requires g c = record {
  tree = record {
    ready = c.requires.df.file.ready;
    tree = c.requires.df.file.tree;
  };
}
