use Rattle.std.specs.Prelude.{IfOk, Result, Ok, Err, Some}
use Rattle.std.proofs.Common.{◌≡◌, ℕ, Bool, true, false, List, Option, None, sym, ◌∙◌, ap, subst}
use Rattle.undo_journal.specs.Memory.{committed}
use Rattle.undo_journal.specs.laws.Exits.{none_ok}
use Rattle.undo_journal.specs.laws.Told.{reads_handed, reads_on}
use Rattle.file_tree.specs.declared.entry.Entry.{Entry}
use Rattle.tree_check.specs.declared.tree.Listing.{Listing}
use Rattle.card_model.specs.declared.space.FreeSpace.{FreeSpace}
use Rattle.tree_check.specs.Surveys.{TellsListing, TellsTree}
use Rattle.undo_journal.specs.declared.error.StoreErr.{StoreErr}
use Rattle.file_tree.specs.declared.index.Index.{Index}
use Rattle.file_tree.specs.Indexes.{IsIndex}
use Rattle.file_tree.specs.Table.{table, extents, free_entries, IsTable}
use Rattle.file_tree.specs.Trees.{TellsSpace}
use Rattle.tree_check.proofs.tree.survey_tree.Goals as goal

-- what a listing tells, by whether the rules hold
listed_is : (t : List Entry) (index : Index) (listing : Listing) (b answer : Bool) → b ≡ answer
    → TellsListing t index listing b → TellsListing t index listing answer
listed_is t index listing b answer is told = subst (λ (r : Bool). TellsListing t index listing r) is told

-- what was found of the free space, with the index of the files
with_index : (m : List ℕ) (index : Index) (r : Result (Option FreeSpace) StoreErr) → IsIndex (table m) index
    → IfOk r (TellsSpace m) → IfOk r (TellsTree m index)
with_index m index (Ok None) is told = told
with_index m index (Ok (Some free)) is told = (told.0, told.1, is)
with_index m index (Err e) is told = told

pub returns-clause-tree : goal.returns-clause-tree
returns-clause-tree g c =
    let m = committed c.args.store.now in
    let by_words : List ℕ → Type 0 = λ l. IfOk c.find_free.result (TellsSpace l) in
    with_index m c.list_files.new.index c.find_free.result
    (listed_is _ _ _ _ true c.if-not-listed.false c.in_ok-listed.ensures.told).index
    (subst by_words c.list_files.ensures.store.only.keeps.committed_words c.find_free.ensures.tree)

pub returns-clause-store : goal.returns-clause-store
returns-clause-store g c = reads_on _ _ _ _ c.list_files.ensures.store.only c.find_free.ensures.store

-- entries that don't satisfy the rules are those of no tree
pub returns-then-not-listed-clause-tree : goal.returns-then-not-listed-clause-tree
returns-then-not-listed-clause-tree g c = λ stands.
    listed_is _ _ _ _ false c.if-not-listed.true c.in_ok-listed.ensures.told stands.entries

pub returns-then-not-listed-clause-store : goal.returns-then-not-listed-clause-store
returns-then-not-listed-clause-store g c = c.in_ok-listed.ensures.store

pub returns-in_err-listed-clause-tree : goal.returns-in_err-listed-clause-tree
returns-in_err-listed-clause-tree g c = none_ok _ _ _ c.from_residual.ensures.1

pub returns-in_err-listed-clause-store : goal.returns-in_err-listed-clause-store
returns-in_err-listed-clause-store g c =
    reads_handed _ _ _ _ c.from_residual.ensures.1 c.in_err-listed.ensures.store

pub find_free-requires : goal.find_free-requires
find_free-requires g c = record {
  ready = c.in_ok-listed.ensures.store.ready;
  extents = let is = listed_is _ _ _ _ true c.if-not-listed.false c.in_ok-listed.ensures.told in
      c.as_slice.ensures.value ∙ is.extents
      ∙ ap (λ (l : List ℕ). extents (table l)) (sym c.list_files.ensures.store.only.keeps.committed_words);
  entries = let is = listed_is _ _ _ _ true c.if-not-listed.false c.in_ok-listed.ensures.told in
      is.free ∙ ap (λ (l : List ℕ). free_entries (table l)) (sym c.list_files.ensures.store.only.keeps.committed_words);
  rules = let is = listed_is _ _ _ _ true c.if-not-listed.false c.in_ok-listed.ensures.told in
      subst (λ (l : List ℕ). IsTable (table l)) (sym c.list_files.ensures.store.only.keeps.committed_words) is.rules;
}
