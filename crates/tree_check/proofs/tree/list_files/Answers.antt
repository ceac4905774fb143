use Rattle.std.specs.Prelude.{IfOk, Result}
use Rattle.std.proofs.Common.{◌≡◌, ℕ, Bool, List, sym, subst, arith}
use Rattle.undo_journal.specs.declared.error.StoreErr.{StoreErr}
use Rattle.undo_journal.specs.laws.Exits.{none_ok}
use Rattle.undo_journal.specs.laws.Told.{reads_handed, reads_on}
use Rattle.tree_check.specs.declared.tree.Listing.{Listing}
use Rattle.file_tree.specs.declared.index.Index.{Index}
use Rattle.tree_check.specs.Surveys.{TellsListing}
use Rattle.file_tree.specs.Table.{table}
use Rattle.file_tree.specs.TableEnd.{IsTableEnd}
use Rattle.tree_check.proofs.tree.list_files.Goals as goal

-- the end that was found, in the words behind the reads
still_end : (m now : List ℕ) (end : ℕ) → now ≡ m → IsTableEnd (table m) end → IsTableEnd (table now) end
still_end m now end same is = subst (λ (l : List ℕ). IsTableEnd (table l) end) (sym same) is

pub list_few-requires-clause-end : goal.list_few-requires-clause-end
list_few-requires-clause-end g c = record {
  ready = c.in_ok-end.ensures.end.store.ready;
  end = still_end _ _ _ c.find_end.ensures.end.store.only.keeps.committed_words c.in_ok-end.ensures.end.told;
}

pub list_few-requires-clause-few : goal.list_few-requires-clause-few
list_few-requires-clause-few g c = omega (arith, c.from.ensures, c.if-from-le-FEW_ENTRIES.true)

pub returns-in_err-end : goal.returns-in_err-end
returns-in_err-end g c = record {
  told = none_ok _ _ _ c.from_residual.ensures.1;
  store = reads_handed _ _ _ _ c.from_residual.ensures.1 c.in_err-end.ensures.end.store;
}

-- what was told of the words behind the reads, by the words before them
told_before : (m now : List ℕ) (index : Index) (listing : Listing) (r : Result Bool StoreErr) → now ≡ m
    → IfOk r (TellsListing (table now) index listing) → IfOk r (TellsListing (table m) index listing)
told_before m now index listing r same told =
    subst (λ (l : List ℕ). IfOk r (TellsListing (table l) index listing)) same told

pub returns-then-from-le-FEW_ENTRIES : goal.returns-then-from-le-FEW_ENTRIES
returns-then-from-le-FEW_ENTRIES g c = record {
  told = told_before _ _ _ _ c.list_few.result c.find_end.ensures.end.store.only.keeps.committed_words
      c.list_few.ensures.told;
  store = reads_on _ _ _ _ c.find_end.ensures.end.store.only c.list_few.ensures.store;
}

pub returns-else-from-le-FEW_ENTRIES : goal.returns-else-from-le-FEW_ENTRIES
returns-else-from-le-FEW_ENTRIES g c = record {
  told = told_before _ _ _ _ c.list_many.result c.find_end.ensures.end.store.only.keeps.committed_words
      c.list_many.ensures.told;
  store = reads_on _ _ _ _ c.find_end.ensures.end.store.only c.list_many.ensures.store;
}

pub list_many-requires-clause-end : goal.list_many-requires-clause-end
list_many-requires-clause-end g c = record {
  ready = c.in_ok-end.ensures.end.store.ready;
  end = still_end _ _ _ c.find_end.ensures.end.store.only.keeps.committed_words c.in_ok-end.ensures.end.told;
}
