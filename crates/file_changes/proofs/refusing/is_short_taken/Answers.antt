use Rattle.std.proofs.Common.{◌≡◌, ℕ, Option, None, Some, is_some, option_map, refl, sym, ◌∙◌, ap, subst}
use Rattle.undo_journal.specs.Memory.{committed}
use Rattle.card_model.specs.declared.fcp.ShortIdentifier.{ShortIdentifier}
use Rattle.card_model.specs.FileControl.{IsShort}
use Rattle.card_model.specs.FileTrees.{Path}
use Rattle.card_model.specs.NewFiles.{has_short_given}
use Rattle.file_tree.specs.Table.{table, path_of}
use Rattle.file_tree.specs.Trees.{tree_of}
use Rattle.undo_journal.specs.laws.Exits.{none_ok}
use Rattle.undo_journal.specs.laws.Told.{reads_handed}
use Rattle.file_changes.proofs.refusing.is_short_taken.Goals as goal

-- what is found by its entry is found by its path
found_path : (path : ℕ → Path) (found : Option ℕ) → is_some found ≡ is_some (option_map path found)
found_path path None = refl
found_path path (Some e) = refl

pub returns-in_err-found-in-Given : goal.returns-in_err-found-in-Given
returns-in_err-found-in-Given g c = record {
  told = none_ok _ _ _ c.from_residual.ensures.1;
  store = reads_handed _ _ _ _ c.from_residual.ensures.1 c.in_err-found-in-Given.ensures.store;
}

pub returns-in_ok-found-in-Given : goal.returns-in_ok-found-in-Given
returns-in_ok-found-in-Given g c = record {
  told = let m = committed c.args.store.now in
      c.is_some.ensures ∙ found_path (path_of (table m)) c.in_ok-found-in-Given.found
      ∙ ap (λ (o : Option Path). is_some o) c.in_ok-found-in-Given.ensures.found
      ∙ ap (λ (s : ShortIdentifier). has_short_given (tree_of m) (path_of (table m) c.args.df) s) (sym c.in-Given.is);
  store = c.in_ok-found-in-Given.ensures.store;
}

pub find_short-requires-clause-some : goal.find_short-requires-clause-some
find_short-requires-clause-some g c = (subst (λ (s : ShortIdentifier). IsShort s) c.in-Given.is c.requires.short).0

pub find_short-requires-clause-df : goal.find_short-requires-clause-df
find_short-requires-clause-df g c = c.requires.df
