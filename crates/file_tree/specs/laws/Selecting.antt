-- What look-ups of a name, of the parent and along a path answer: what SELECT reaches in the tree by them.
use Rattle.std.specs.Prelude.{◌≡◌, ◌≢◌, ◌⊎◌, ◌<◌, ◌==◌, ℕ, IsTrue, Bool, true, false, not, ◌&&◌, if◌then◌else◌, List}
use Rattle.std.specs.Prelude.{[], ◌∷◌, ◌++◌, length, map, find, Option, None, Some, IfSome, option_map}
use Rattle.std.specs.FinMap.{entries}
use Rattle.std.proofs.Common.{refl, sym, ◌∙◌, ap, subst, arith, inl, inr, ⊎_elim, true≢false}
use Rattle.std.proofs.lemmas.Bool.{and_parts}
use Rattle.std.proofs.lemmas.Bool.Decides.{eqb_tells}
use Rattle.std.proofs.lemmas.List.{append_assoc, append-nil}
use Rattle.file_tree.specs.declared.entry.Entry.{Entry}
use Rattle.card_model.specs.FileTrees.{Path, Tree, IsTree, master_file, parent, identifier, exists, file_at}
use Rattle.card_model.specs.FileTrees.{is_dedicated}
use Rattle.file_tree.specs.Entries.{free_entry}
use Rattle.card_model.specs.Selectors.{Candidate, first_reached, is_named, selected, the_parent, by_name}
use Rattle.card_model.specs.Selectors.{path_from_master, path_from_current, IsReserved}
use Rattle.card_model.specs.laws.PathEnds.{parent-push, identifier-push}
use Rattle.file_tree.specs.Table.{table, entry_in, path_of, IsUsed, IsTable}
use Rattle.file_tree.specs.Trees.{tree_of, TreeStands}
use Rattle.file_tree.specs.Indexes.{TellsChild}
use Rattle.file_tree.specs.Naming.{TellsNamed}
use Rattle.file_tree.specs.laws.Paths.{path-zero, not_empty}
use Rattle.file_tree.specs.laws.Paths.{identifier_path, path_of_child}
use Rattle.file_tree.specs.laws.Nodes.{Node, used_small, exists-used, exists-none}
use Rattle.file_tree.specs.laws.Tables.{length-table}
use Rattle.file_tree.specs.laws.LookUps.{picks, at_root, above_path}
use Rattle.file_tree.specs.laws.Refusing.{child_told, name_found}
use Rattle.file_tree.specs.laws.Standing.{stands_tree}

-- one candidate leads somewhere, or not
one_leads : (leads : Bool) (path : Path) → leads ≡ true
    → Some path ≡ first_reached (record { leads = leads; path = path } ∷ [])
one_leads leads path is = sym (picks leads path [] ∙ ap (λ (b : Bool). if b then Some path else None) is)

one_fails : (leads : Bool) (path : Path) → leads ≡ false
    → None ≡ first_reached (record { leads = leads; path = path } ∷ [])
one_fails leads path is = sym (picks leads path [] ∙ ap (λ (b : Bool). if b then Some path else None) is)

-- The parent of a dedicated file but the master file is reached; the master file has none.
pub parent_reached : (m : List ℕ) (rules : IsTable (table m)) (df : ℕ) → IsUsed (table m) df → df ≢ 0
    → Some (path_of (table m) (entry_in (table m) df).parent) ≡ selected (tree_of m) (path_of (table m) df) the_parent
parent_reached m rules df used some =
    let below : (length (path_of (table m) df) == 0) ≡ false = at_root m rules df 0 used ∙ elim (eqb_tells df 0) [
      | inl same ↦ absurd (some same.1)
      | inr other ↦ other.0
    ] in
    ap (λ (p : Path). Some p) (sym (above_path m rules df 0 used))
    ∙ one_leads (not (length (path_of (table m) df) == 0)) (parent (path_of (table m) df)) (ap not below)

pub parent_of_master : (m : List ℕ) (df : ℕ) → df ≡ 0 → None ≡ selected (tree_of m) (path_of (table m) df) the_parent
parent_of_master m df is = one_fails (not (length (path_of (table m) df) == 0)) (parent (path_of (table m) df))
    (ap (λ (p : Path). not (length p == 0)) (path-zero (table m) 7 df is))

-- the first of some nodes that passes a test
abbrev tested : (Node → Bool) → List Node → List Candidate
tested test ns = map (λ n. record { leads = test n; path = n.0 }) ns

first_step : (test : Node → Bool) (n : Node) (ns : List Node) (b : Bool) → test n ≡ b
    → first_reached (tested test ns) ≡ option_map (λ x. x.0) (find test ns)
    → first_reached (tested test (n ∷ ns)) ≡ option_map (λ x. x.0) (find test (n ∷ ns))
first_step test n ns true is rest =
    picks (test n) n.0 (tested test ns)
    ∙ ap (λ (b : Bool). if b then Some n.0 else first_reached (tested test ns)) is
    ∙ sym (ap (λ (b : Bool). option_map (λ x. x.0) (if b then Some n else find test ns)) is)
first_step test n ns false is rest =
    picks (test n) n.0 (tested test ns)
    ∙ ap (λ (b : Bool). if b then Some n.0 else first_reached (tested test ns)) is
    ∙ rest
    ∙ sym (ap (λ (b : Bool). option_map (λ x. x.0) (if b then Some n else find test ns)) is)

first_of : (test : Node → Bool) (ns : List Node)
    → first_reached (tested test ns) ≡ option_map (λ x. x.0) (find test ns)
first_of test [] = refl
first_of test (n ∷ ns) = first_step test n ns (test n) refl (first_of test ns)

-- The file that the table has with a name is reached by it, from everywhere.
pub name_reached : (m : List ℕ)
    → IsTable (table m) → (name : List ℕ) (found : Option ℕ) → TellsNamed (table m) name found
    → (df : Path) → option_map (path_of (table m)) found ≡ selected (tree_of m) df (by_name name)
name_reached m rules name found told df =
    sym (first_of (λ n. is_named name n.1.kind) (entries (tree_of m)) ∙ name_found m rules name found told)

pub named_is_used : (t : List Entry) (name : List ℕ) (found : Option ℕ) → TellsNamed t name found
    → IfSome found (IsUsed t)
named_is_used t name None told = tt
named_is_used t name (Some e) told = λ free. let k = told.kind in let z : ⊥ = omega (arith, k, free) in z

-- where there is no file, there is none below
no_child : (tree : Tree) → IsTree tree → (path : Path) (id : ℕ) → exists tree path ≡ false
    → exists tree (path ++ id ∷ []) ≡ false
no_child tree is path id none = by_test (exists tree (path ++ id ∷ [])) refl
  where
    by_test : (b : Bool) → exists tree (path ++ id ∷ []) ≡ b → exists tree (path ++ id ∷ []) ≡ false
    by_test true there = absurd (true≢false (sym (and_parts _ _ (is.parents (path ++ id ∷ []) there)).0
        ∙ ap (exists tree) (parent-push path id) ∙ none))
    by_test false there = there

none_below : (tree : Tree) → IsTree tree → (left path : Path) → exists tree path ≡ false
    → exists tree (path ++ left) ≡ false
none_below tree is [] path none = ap (exists tree) (append-nil path) ∙ none
none_below tree is (id ∷ left) path none =
    ap (exists tree) (sym (append_assoc path (id ∷ []) left))
    ∙ none_below tree is left (path ++ id ∷ []) (no_child tree is path id none)

-- What is left of a path, from where a look-up stands, is the rest of the whole way.
pub record IsOnWay (m : List ℕ) (df at : ℕ) (path left : Path) : Type 0 where
  pub used : IsUsed (table m) at
  pub way : path_of (table m) at ++ left ≡ path_of (table m) df ++ path

pub way_goes_on : (m : List ℕ) → IsTable (table m) → (df at id e : ℕ) (path left : Path)
    → IsOnWay m df at path (id ∷ left) → TellsChild (table m) at id (Some e) → IsOnWay m df e path left
way_goes_on m rules df at id e path left on told = record {
  used = told.0.used;
  way = ap (λ (p : Path). p ++ left) (path_of_child (table m) rules at e told.0
      ∙ ap (λ (k : ℕ). path_of (table m) at ++ k ∷ []) told.1)
      ∙ append_assoc (path_of (table m) at) (id ∷ []) left
      ∙ on.way;
}

-- At its end the file is reached;
pub way_ends : (m : List ℕ) → IsTable (table m) → (df at : ℕ) (path : Path) → IsOnWay m df at path []
    → Some (path_of (table m) at) ≡ selected (tree_of m) (path_of (table m) df) (path_from_current path)
way_ends m rules df at path on =
    let whole : path_of (table m) at ≡ path_of (table m) df ++ path =
    sym (append-nil (path_of (table m) at)) ∙ on.way in
    ap (λ (p : Path). Some p) whole
    ∙ one_leads (exists (tree_of m) (path_of (table m) df ++ path)) (path_of (table m) df ++ path)
    (exists-used m rules at (path_of (table m) df ++ path) on.used whole)

-- and where there is no such child, nothing is.
pub way_is_lost : (m : List ℕ) → TreeStands m → (df at id : ℕ) (path left : Path) → IsOnWay m df at path (id ∷ left)
    → TellsChild (table m) at id None
    → None ≡ selected (tree_of m) (path_of (table m) df) (path_from_current path)
way_is_lost m stands df at id path left on none =
    one_fails (exists (tree_of m) (path_of (table m) df ++ path)) (path_of (table m) df ++ path)
    (ap (exists (tree_of m)) (sym on.way ∙ sym (append_assoc (path_of (table m) at) (id ∷ []) left))
    ∙ none_below (tree_of m) (stands_tree m stands) left (path_of (table m) at ++ id ∷ [])
    (child_told m stands.entries at id None on.used none))

-- a path from the master file is one from below it
pub path_below_master : (m : List ℕ) (df path : Path)
    → selected (tree_of m) (path_of (table m) 0) (path_from_current path)
    ≡ selected (tree_of m) df (path_from_master path)
path_below_master m df path =
    ap (λ (p : Path). selected (tree_of m) p (path_from_current path)) (path-zero (table m) 7 0 refl)

-- the file above one that is there is there
above_there : (m : List ℕ) → TreeStands m → (path left : Path) (id : ℕ)
    → IsTrue (exists (tree_of m) (path ++ id ∷ left)) → IsTrue (exists (tree_of m) (path ++ id ∷ []))
above_there m stands path left id there = by_test (exists (tree_of m) (path ++ id ∷ [])) refl
  where
    by_test : (b : Bool) → exists (tree_of m) (path ++ id ∷ []) ≡ b → IsTrue (exists (tree_of m) (path ++ id ∷ []))
    by_test true is = is
    by_test false is = absurd (true≢false (sym there
        ∙ ap (exists (tree_of m)) (sym (append_assoc path (id ∷ []) left))
        ∙ none_below (tree_of m) (stands_tree m stands) left (path ++ id ∷ []) is))

-- a used entry's path does not end in a reserved identifier
not_reserved : (m : List ℕ) → IsTable (table m) → (e : ℕ) → IsUsed (table m) e → (path : Path) (id : ℕ)
    → path_of (table m) e ≡ path ++ id ∷ [] → IsReserved id → ⊥
not_reserved m rules e used path id is reserved =
    let below : e ≢ 0 = λ same. not_empty path id (sym is ∙ path-zero (table m) 7 e same) in
    let above : 0 < e = omega (arith, below) in
    let within : e < length (table m) =
    (let l = length-table m in let small = used_small m e used in omega (arith, l, small)) in
    let own : (entry_in (table m) e).identifier ≡ id =
    sym (identifier_path (table m) rules e used) ∙ ap identifier is ∙ identifier-push path id in
    let file = (rules.each e free_entry within).used used in
    ⊎_elim
    (λ (master : id ≡ master_file). (rules.below e above used).identifier (own ∙ master))
    (λ (others : (id ≡ 0x3FFF) ⊎ (id ≡ 0xFFFF)). ⊎_elim
    (λ (current : id ≡ 0x3FFF). file.identifier.0 (own ∙ current))
    (λ (all : id ≡ 0xFFFF). file.identifier.1 (own ∙ all))
    others)
    reserved

-- A path that is gone on from a file has that file, and it is a dedicated one.
pub way_through : (m : List ℕ) → TreeStands m → (path left : Path) (id : ℕ)
    → IsTrue (exists (tree_of m) (path ++ id ∷ left))
    → IsTrue (exists (tree_of m) path && is_dedicated (file_at (tree_of m) path).kind)
way_through m stands path left id there =
    let tree = stands_tree m stands in
    let family : Path → Type 0 = λ p. IsTrue (exists (tree_of m) p && is_dedicated (file_at (tree_of m) p).kind) in
    subst family (parent-push path id) (tree.parents (path ++ id ∷ []) (above_there m stands path left id there))

-- Below the master file no file has its identifier, nor one of the two that are reserved.
pub way_reserved : (m : List ℕ) → TreeStands m → (path left : Path) (id : ℕ) → IsReserved id
    → exists (tree_of m) (path ++ id ∷ left) ≡ false
way_reserved m stands path left id reserved =
    ap (exists (tree_of m)) (sym (append_assoc path (id ∷ []) left))
    ∙ none_below (tree_of m) (stands_tree m stands) left (path ++ id ∷ [])
    (exists-none m (path ++ id ∷ []) (λ e used is. not_reserved m stands.entries e used path id is reserved))
