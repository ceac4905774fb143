-- A memory that stands for a tree: its files are those of a card.
use Rattle.std.specs.Prelude.{◌≡◌, ◌==◌, ◌<◌, ℕ, Bool, true, ◌&&◌, List, []}
use Rattle.std.specs.Prelude.{Option, None, Some, is_some, IsTrue}
use Rattle.std.specs.FinMap.{get}
use Rattle.std.proofs.Common.{refl, sym, ◌∙◌, ap, ap₂, arith, inl, inr, true≢false}
use Rattle.std.proofs.lemmas.Bool.Decides.{eqb_tells}
use Rattle.card_model.specs.FileTrees.{Path, File, parent, exists, file_at, is_dedicated, IsTree}
use Rattle.file_tree.specs.Table.{table, entry_in, path_of, IsUsed, IsTable}
use Rattle.file_tree.specs.Trees.{content, tree_of, TreeStands}
use Rattle.file_tree.specs.laws.Paths.{path-zero, master_used, parent_path}
use Rattle.file_tree.specs.laws.Nodes.{entry_found, exists-used, file_at_entry, dedicated_entry}
use Rattle.file_tree.specs.laws.LookUps.{above_used}

-- the parent of a used entry is a dedicated file's
pub above_dedicated : (m : List ℕ) → IsTable (table m) → (e : ℕ) → IsUsed (table m) e
    → (entry_in (table m) (entry_in (table m) e).parent).kind ≡ 1
above_dedicated m rules e used = elim (eqb_tells e 0) [
  | inl same ↦ ap (λ (k : ℕ). (entry_in (table m) k).kind) (ap (λ (k : ℕ). (entry_in (table m) k).parent) same.1
      ∙ rules.master.parent)
      ∙ rules.master.kind
  | inr other ↦ let above : 0 < e = (let d = other.1 in omega (arith, d)) in (rules.below e above used).parent
]

-- a used entry's path is that of a dedicated file where its kind is 1
pub dedicated_there : (m : List ℕ) → IsTable (table m) → (e : ℕ) (p : Path) → IsUsed (table m) e
    → path_of (table m) e ≡ p
    → (entry_in (table m) e).kind ≡ 1 → (exists (tree_of m) p && is_dedicated (file_at (tree_of m) p).kind) ≡ true
dedicated_there m rules e p used is kind =
    ap₂ (λ (b c : Bool). b && c) (exists-used m rules e p used is)
    (ap (λ (f : File). is_dedicated f.kind) (file_at_entry m rules e p used is)
    ∙ dedicated_entry (entry_in (table m) e) (content m (entry_in (table m) e)) ∙ ap (λ (k : ℕ). k == 1) kind)

-- The master file is there, and each file's parent, a dedicated file.
pub stands_tree : (m : List ℕ) → TreeStands m → IsTree (tree_of m)
stands_tree m stands = record {
  master = exists-used m stands.entries 0 [] (master_used (table m) stands.entries) (path-zero (table m) 7 0 refl);
  parents = λ path there. by_file path (get (tree_of m) path) refl there;
}
  where
    by_file : (path : Path) (o : Option File) → get (tree_of m) path ≡ o → IsTrue (is_some (get (tree_of m) path))
        → IsTrue (exists (tree_of m) (parent path) && is_dedicated (file_at (tree_of m) (parent path)).kind)
    by_file path None is there = absurd (true≢false (sym there ∙ ap (λ (o : Option File). is_some o) is))
    by_file path (Some f) is there =
        let found = entry_found m path f is in
        let e = found.0 in
        dedicated_there m stands.entries (entry_in (table m) e).parent (parent path)
        (above_used m stands.entries e 0 found.1)
        (sym (parent_path (table m) stands.entries e found.1) ∙ ap parent found.2)
        (above_dedicated m stands.entries e found.1)
