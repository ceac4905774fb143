use Rattle.std.proofs.Common.{◌≡◌, ℕ, List, Option, Some, option_map, sym, ◌∙◌, ap, rules}
use Rattle.undo_journal.specs.Memory.{committed}
use Rattle.apdu_core.specs.declared.select.Selector.{Selector}
use Rattle.apdu_core.specs.ParsedCommands.{selection_of}
use Rattle.card_model.specs.Requests.{path_from_master as whole_path, path_from_current as path_below}
use Rattle.card_model.specs.FileTrees.{Path, Tree}
use Rattle.card_model.specs.Selectors.{by_name, path_from_current, path_from_master, reached, selected, the_parent}
use Rattle.file_tree.specs.Table.{path_of}
use Rattle.file_tree.specs.Trees.{tree_of}
use Rattle.std.proofs.lemmas.Result.{IfOk-weaker}
use Rattle.card_model.specs.Reaching.{selected_from}
use Rattle.command_base.specs.Standing.{card_of}
use Rattle.command_base.specs.Working.{table_in}
use Rattle.command_base.specs.laws.Entries.{card-tree, master-path}
use Rattle.command_base.specs.laws.Readings.{df_kept, df_used}
use Rattle.select_command.proofs.select.find_selected.Goals as goal

pub returns-in-MasterFile-clause-found : goal.returns-in-MasterFile-clause-found
returns-in-MasterFile-clause-found g c = record {
  told = let m = committed c.args.store.now in
      ap (λ (selector : Selector). selected_from (card_of m).tree (path_of (table_in c.args.store.now)
      c.args.current.now.df) (selection_of selector)) c.in-MasterFile.is
      ∙ sym (ap (λ (e : ℕ). Some (path_of (table_in c.args.store.now) e)) c.master.ensures
      ∙ ap (λ (path : Path). Some path) (master-path m));
  store = search rules;
}

pub returns-in-Identifier-clause-found : goal.returns-in-Identifier-clause-found
returns-in-Identifier-clause-found g c = record {
  told = let m = committed c.args.store.now in
      let t = table_in c.args.store.now in
      let df = path_of t c.args.current.now.df in
      let id = c.in-Identifier.identifier in
      IfOk-weaker c.select.result (λ (found : Option ℕ). option_map (path_of t) found ≡ reached (tree_of m) df id) _
      (λ found is. ap (λ (selector : Selector). selected_from (card_of m).tree df (selection_of selector))
      c.in-Identifier.is
      ∙ ap (λ (tree : Tree). reached tree df id) (card-tree m) ∙ sym is)
      c.select.ensures.found;
  store = search rules;
}

pub returns-in-Parent-clause-found : goal.returns-in-Parent-clause-found
returns-in-Parent-clause-found g c = record {
  told = let m = committed c.args.store.now in
      let t = table_in c.args.store.now in
      let df = path_of t c.args.current.now.df in
      IfOk-weaker c.find_parent.result
      (λ (found : Option ℕ). option_map (path_of t) found ≡ selected (tree_of m) df the_parent) _
      (λ found is. ap (λ (selector : Selector). selected_from (card_of m).tree df
      (selection_of selector)) c.in-Parent.is
      ∙ ap (λ (tree : Tree). selected tree df the_parent) (card-tree m) ∙ sym is)
      c.find_parent.ensures.found;
  store = search rules;
}

pub returns-in-Name-clause-found : goal.returns-in-Name-clause-found
returns-in-Name-clause-found g c = record {
  told = let m = committed c.args.store.now in
      let t = table_in c.args.store.now in
      let df = path_of t c.args.current.now.df in
      let name = c.in-Name.name.now in
      IfOk-weaker c.find_name.result
      (λ (found : Option ℕ). (above : Path) → option_map (path_of t) found ≡ selected (tree_of m) above
      (by_name name)) _
      (λ found is. ap (λ (selector : Selector). selected_from (card_of m).tree df (selection_of selector)) c.in-Name.is
      ∙ ap (λ (tree : Tree). selected tree df (by_name name)) (card-tree m) ∙ sym (is df))
      c.find_name.ensures.found;
  store = search rules;
}

pub returns-in-PathFromMaster-clause-found : goal.returns-in-PathFromMaster-clause-found
returns-in-PathFromMaster-clause-found g c = record {
  told = let m = committed c.args.store.now in
      let df = path_of (table_in c.args.store.now) c.args.current.now.df in
      let path = c.deref.result.now in
      let is = c.deref.ensures.0 ∙ c.identifiers_of.ensures in
      let reaches = c.find_path_from_master.ensures.found m c.requires.card.kept.card.tree c.requires.card.index df in
      ap (λ (selector : Selector). selected_from (card_of m).tree df (selection_of selector)) c.in-PathFromMaster.is
      ∙ ap (λ (ids : List ℕ). selected_from (card_of m).tree df (whole_path ids)) (sym is)
      ∙ ap (λ (tree : Tree). selected tree df (path_from_master path)) (card-tree m) ∙ sym reaches;
  store = search rules;
}

pub returns-in-PathFromMaster-clause-used : goal.returns-in-PathFromMaster-clause-used
returns-in-PathFromMaster-clause-used g c =
    c.find_path_from_master.ensures.used (committed c.args.store.now) c.requires.card.kept.card.tree
    c.requires.card.index

pub returns-in-PathFromCurrent-clause-found : goal.returns-in-PathFromCurrent-clause-found
returns-in-PathFromCurrent-clause-found g c = record {
  told = let m = committed c.args.store.now in
      let t = table_in c.args.store.now in
      let df = path_of t c.args.current.now.df in
      let path = c.deref-in-PathFromCurrent.result.now in
      let is = c.deref-in-PathFromCurrent.ensures.0 ∙ c.identifiers_of-in-PathFromCurrent.ensures in
      let reaches = c.find_path.ensures.found m c.requires.card.kept.card.tree (df_used t c.args.current.now
      c.requires.card.kept.current)
      c.requires.card.index in
      ap (λ (selector : Selector). selected_from (card_of m).tree df (selection_of selector)) c.in-PathFromCurrent.is
      ∙ ap (λ (ids : List ℕ). selected_from (card_of m).tree df (path_below ids)) (sym is)
      ∙ ap (λ (tree : Tree). selected tree df (path_from_current path)) (card-tree m) ∙ sym reaches;
  store = search rules;
}

pub returns-in-PathFromCurrent-clause-used : goal.returns-in-PathFromCurrent-clause-used
returns-in-PathFromCurrent-clause-used g c =
    c.find_path.ensures.used (committed c.args.store.now) c.requires.card.kept.card.tree
    (df_used (table_in c.args.store.now) c.args.current.now c.requires.card.kept.current) c.requires.card.index

pub find_parent-requires : goal.find_parent-requires
find_parent-requires g c = record { df = df_kept _ _ c.requires.card.kept }

pub select-requires : goal.select-requires
select-requires g c = record {
  df = record {
    file = df_kept _ _ c.requires.card.kept;
    index = c.requires.card.index;
  };
}

pub find_name-requires : goal.find_name-requires
find_name-requires g c = record {
  tree = record {
    ready = c.requires.card.kept.ready;
    tree = c.requires.card.kept.card.tree;
  };
}
