use Rattle.std.proofs.Common.{◌≡◌, ℕ, List, sym, ◌∙◌, ap, subst}
use Rattle.card_model.specs.Selectors.{selected, path_from_current}
use Rattle.file_tree.specs.Table.{table, path_of, IsUsed, IsTable}
use Rattle.file_tree.specs.Trees.{tree_of}
use Rattle.file_tree.specs.laws.Paths.{master_used}
use Rattle.file_tree.specs.laws.Selecting.{path_below_master}
use Rattle.file_lookup.proofs.naming.find_path_from_master.Goals as goal

-- the entry that is told to be the master file's is used
is_used : (m : List ℕ) (e : ℕ) → IsTable (table m) → e ≡ 0 → IsUsed (table m) e
is_used m e rules is = subst (λ (k : ℕ). IsUsed (table m) k) (sym is) (master_used (table m) rules)

pub returns-clause-found : goal.returns-clause-found
returns-clause-found c = λ m stands is df.
    c.find_path.ensures.found m stands (is_used m _ stands.entries c.master.ensures) is
    ∙ ap (λ (e : ℕ). selected (tree_of m) (path_of (table m) e) (path_from_current c.args.path.now)) c.master.ensures
    ∙ path_below_master m df c.args.path.now

pub returns-clause-used : goal.returns-clause-used
returns-clause-used c = λ m stands is.
    c.find_path.ensures.used m stands (is_used m _ stands.entries c.master.ensures) is
