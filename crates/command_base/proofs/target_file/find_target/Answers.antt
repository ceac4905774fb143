use Rattle.std.proofs.Common.{◌≡◌, ◌≤◌, ℕ, List, Option, Some, None, IfSome, option_map, sym, ◌∙◌, ap, rules}
use Rattle.undo_journal.specs.Memory.{committed}
use Rattle.card_model.specs.declared.requests.Target.{Target}
use Rattle.card_model.specs.FileTrees.{Tree}
use Rattle.card_model.specs.Selectors.{child_by_short}
use Rattle.file_tree.specs.declared.entry.Entry.{Entry}
use Rattle.file_tree.specs.Table.{table, entry_in, path_of, IsChild}
use Rattle.file_tree.specs.Trees.{tree_of}
use Rattle.card_model.specs.Reaching.{target_of}
use Rattle.command_base.specs.Standing.{card_of}
use Rattle.command_base.specs.Working.{session_of, IsElementary}
use Rattle.command_base.specs.laws.Answering.{ok_both}
use Rattle.std.proofs.lemmas.Result.{IfOk-weaker}
use Rattle.command_base.specs.laws.Entries.{card-tree, current-path}
use Rattle.command_base.specs.laws.Readings.{df_kept}
use Rattle.command_base.proofs.target_file.find_target.Goals as goal

pub returns-in-Current-clause-found : goal.returns-in-Current-clause-found
returns-in-Current-clause-found g c = record {
  told = let m = committed c.args.store.now in
      ap (λ (target : Target). target_of (card_of m).tree
      (session_of (table m) c.args.current.now) target) c.in-Current.is
      ∙ current-path m c.requires.target.kept.card c.args.current.now c.requires.target.kept.current;
  store = search rules;
}

pub returns-in-Short-clause-found : goal.returns-in-Short-clause-found
returns-in-Short-clause-found g c = record {
  told = let m = committed c.args.store.now in
      let t = table m in
      let df = path_of t c.args.current.now.df in
      let n = c.in-Short.short in
      IfOk-weaker c.find_short.result
      (λ (found : Option ℕ). option_map (path_of t) found ≡ child_by_short (tree_of m) df n) _ (λ found is.
      ap (λ (target : Target). target_of (card_of m).tree (session_of t c.args.current.now) target) c.in-Short.is
      ∙ ap (λ (tree : Tree). child_by_short tree df n) (card-tree m) ∙ sym is)
      c.find_short.ensures.found;
  store = search rules;
}

pub returns-in-Short-clause-child : goal.returns-in-Short-clause-child
returns-in-Short-clause-child g c =
    let t = table (committed c.args.store.now) in
    let df = c.args.current.now.df in
    ok_both (λ (found : Option ℕ). IfSome found (IsChild t df)) (λ (found : Option ℕ). IfSome found (λ e. 2 ≤
    (entry_in t e).kind))
    (λ (found : Option ℕ). IfSome found (IsElementary t df)) c.find_short.result
    (λ found child kind. elementary t df found child kind) c.find_short.ensures.child c.find_short.ensures.elementary
  where
    elementary : (t : List Entry) (df : ℕ) (found : Option ℕ) → IfSome found (IsChild t df)
        → IfSome found (λ e. 2 ≤ (entry_in t e).kind)
        → IfSome found (IsElementary t df)
    elementary t df None child kind = tt
    elementary t df (Some e) child kind = record { child = child; kind = kind }

pub find_short-requires-clause-df : goal.find_short-requires-clause-df
find_short-requires-clause-df g c = df_kept _ _ c.requires.target.kept
