-- The nodes of a memory, one for each used entry, and what the tree of them has at a path.
use Rattle.std.specs.Prelude.{◌≡◌, ◌≢◌, ◌==◌, ◌<◌, ◌≤◌, ◌+◌, ℕ, zero, suc, Bool, true, false, cond, if◌then◌else◌}
use Rattle.std.specs.Prelude.{List, Option, None, Some, is_some, unwrap_or}
use Rattle.std.specs.List.{range_with_len, filter_map, cons_option}
use Rattle.std.specs.Ordering.{nat_cmp}
use Rattle.std.specs.Cmp.Lexicographic.{slice_cmp, nat_list_cmp_total}
use Rattle.std.specs.FinMap.{get, find, get-from_entries}
use Rattle.std.proofs.Common.{refl, sym, ◌∙◌, ap, ap₂, arith, inl, inr, ⊎_elim, true≢false}
use Rattle.std.proofs.lemmas.Bool.{cases_lt}
use Rattle.std.proofs.lemmas.Bool.Decides.{eqb_tells}
use Rattle.std.proofs.lemmas.Option.{none-some, same_Some}
use Rattle.file_tree.specs.declared.entry.Entry.{Entry}
use Rattle.card_model.specs.FileTrees.{dedicated, elementary, Body, Path, File, no_file, exists, file_at, is_dedicated}
use Rattle.file_tree.specs.Entries.{file_of}
use Rattle.file_tree.specs.Table.{table, entry_in, path_of, IsUsed, IsTable}
use Rattle.file_tree.specs.Trees.{node, tree_of, file_in}
use Rattle.file_tree.specs.laws.Tables.{length-table, entry_past}
use Rattle.file_tree.specs.laws.Paths.{one_path}
use Rattle.card_model.specs.laws.Orders.{same_path, one_of_same, same_of_one}

-- a file by its path
abbrev pub Node : Type 0
Node = Path × File

-- what is found in a list of nodes
abbrev pub find_path : Path → List Node → Option File
find_path p ns = find (slice_cmp nat_cmp) p ns

module _ (nodes : ℕ → Option Node) where
  -- the first node is at the path, or what is found is found behind it
  found_first : (a e : ℕ) (p : Path) (f : File) (rest : List Node) → nodes e ≡ Some (p, f)
      → ((k : ℕ) (g : File) → nodes k ≡ Some (p, g) → k ≡ e) → (a ≢ e → find_path p rest ≡ Some f)
      → (o : Option Node) → nodes a ≡ o → find_path p (cons_option o rest) ≡ Some f
  found_first a e p f rest is alone later None none = later (λ same. none-some (p, f) (sym none ∙ ap nodes same ∙ is))
  found_first a e p f rest is alone later (Some x) some = by_test (same_path p x.0) refl
    where
      by_test : (b : Bool) → same_path p x.0 ≡ b → cond b (Some x.1) (find_path p rest) ≡ Some f
      by_test true t =
          let at_p : nodes a ≡ Some (p, x.1) = some ∙ ap (λ (q : Path). Some (q, x.1)) (sym (one_of_same p x.0 t)) in
          let same = alone a x.1 at_p in
          ap (λ (n : Node). Some n.1) (same_Some (p, x.1) (p, f) (sym at_p ∙ ap nodes same ∙ is))
      by_test false t = later (λ same.
          let one = same_Some x (p, f) (sym some ∙ ap nodes same ∙ is) in
          true≢false (sym (same_of_one p x.0 (sym (ap (λ (n : Node). n.0) one))) ∙ t))

  -- what is found at a path that one number's node has, and no other's
  pub found_node : (a n e : ℕ) (p : Path) (f : File) → a ≤ e → e < a + n → nodes e ≡ Some (p, f)
      → ((k : ℕ) (g : File) → nodes k ≡ Some (p, g) → k ≡ e)
      → find_path p (filter_map nodes (range_with_len a n)) ≡ Some f
  found_node a zero e p f from below is alone = absurd (omega (arith, from, below))
  found_node a (suc n) e p f from below is alone =
      found_first a e p f (filter_map nodes (range_with_len (a + 1) n)) is alone
      (λ other. found_node (a + 1) n e p f (omega (arith, from, other)) (omega (arith, below)) is alone)
      (nodes a) refl

  missed_first : (a : ℕ) (p : Path) (rest : List Node) → ((g : File) → nodes a ≡ Some (p, g) → ⊥)
      → find_path p rest ≡ None
      → (o : Option Node) → nodes a ≡ o → find_path p (cons_option o rest) ≡ None
  missed_first a p rest never later None none = later
  missed_first a p rest never later (Some x) some = by_test (same_path p x.0) refl
    where
      by_test : (b : Bool) → same_path p x.0 ≡ b → cond b (Some x.1) (find_path p rest) ≡ None
      by_test true t = absurd (never x.1 (some ∙ ap (λ (q : Path). Some (q, x.1)) (sym (one_of_same p x.0 t))))
      by_test false t = later

  -- nothing is found at a path that no number's node has
  pub missed_node : (a n : ℕ) (p : Path) → ((k : ℕ) (g : File) → a ≤ k → nodes k ≡ Some (p, g) → ⊥)
      → find_path p (filter_map nodes (range_with_len a n)) ≡ None
  missed_node a zero p never = refl
  missed_node a (suc n) p never =
      missed_first a p (filter_map nodes (range_with_len (a + 1) n)) (λ g. never a g (omega arith))
      (missed_node (a + 1) n p (λ k g from. never k g (omega (arith, from)))) (nodes a) refl

  -- what is found at a path is a number's node
  node_first : (a : ℕ) (p : Path) (f : File) (rest : List Node)
      → (find_path p rest ≡ Some f → (e : ℕ) × (nodes e ≡ Some (p, f)))
      → (o : Option Node) → nodes a ≡ o → find_path p (cons_option o rest) ≡ Some f
      → (e : ℕ) × (nodes e ≡ Some (p, f))
  node_first a p f rest later None none found = later found
  node_first a p f rest later (Some x) some found = by_test (same_path p x.0) refl found
    where
      by_test : (b : Bool) → same_path p x.0 ≡ b → cond b (Some x.1) (find_path p rest) ≡ Some f
          → (e : ℕ) × (nodes e ≡ Some (p, f))
      by_test true t is = (
        a,
        some
            ∙ ap₂ (λ (q : Path) (g : File). Some (q, g)) (sym (one_of_same p x.0 t)) (same_Some x.1 f is),
      )
      by_test false t is = later is

  pub node_found : (a n : ℕ) (p : Path) (f : File) → find_path p (filter_map nodes (range_with_len a n)) ≡ Some f
      → (e : ℕ) × (nodes e ≡ Some (p, f))
  node_found a zero p f found = absurd (none-some f found)
  node_found a (suc n) p f found =
      node_first a p f (filter_map nodes (range_with_len (a + 1) n)) (node_found (a + 1) n p f) (nodes a) refl found

-- a used entry is one of the table
pub used_small : (m : List ℕ) (e : ℕ) → IsUsed (table m) e → e < 64
used_small m e used = ⊎_elim
    (λ (lt : e < 64). lt)
    (λ (past : 64 ≤ e). absurd (used (ap (λ (x : Entry). x.kind)
    (entry_past (table m) e (let l = length-table m in omega (arith, l, past))))))
    (cases_lt e 64)

pub node-used : (m : List ℕ) (e : ℕ) → IsUsed (table m) e → node m e ≡ Some (path_of (table m) e, file_in m e)
unfolding node
node-used m e used = elim (eqb_tells (entry_in (table m) e).kind 0) [
  | inl same ↦ absurd (used same.1)
  | inr other ↦ ap (λ (b : Bool). if b then None else Some (path_of (table m) e, file_in m e)) other.0
]

pub node-free : (m : List ℕ) (e : ℕ) → (entry_in (table m) e).kind ≡ 0 → node m e ≡ None
unfolding node
node-free m e free = elim (eqb_tells (entry_in (table m) e).kind 0) [
  | inl same ↦ ap (λ (b : Bool). if b then None else Some (path_of (table m) e, file_in m e)) same.0
  | inr other ↦ absurd (other.1 free)
]

-- what a node says of its entry
pub node_tells : (m : List ℕ) (e : ℕ) (p : Path) (f : File) → node m e ≡ Some (p, f)
    → IsUsed (table m) e × (p ≡ path_of (table m) e) × (f ≡ file_in m e)
node_tells m e p f is = elim (eqb_tells (entry_in (table m) e).kind 0) [
  | inl same ↦ absurd (none-some (p, f) (sym (node-free m e same.1) ∙ is))
  | inr other ↦
      let one = same_Some (p, f) (path_of (table m) e, file_in m e) (sym is ∙ node-used m e other.1) in
      (other.1, ap (λ (n : Node). n.0) one, ap (λ (n : Node). n.1) one)
]

-- The tree has a used entry's file at its path, and nothing where no used entry has the path.
pub get-used : (m : List ℕ) → IsTable (table m) → (e : ℕ) → IsUsed (table m) e
    → get (tree_of m) (path_of (table m) e) ≡ Some (file_in m e)
unfolding tree_of
get-used m rules e used =
    let below = used_small m e used in
    get-from_entries nat_list_cmp_total (filter_map (node m) (range_with_len 0 64)) (path_of (table m) e)
    ∙ found_node (node m) 0 64 e (path_of (table m) e) (file_in m e) (omega arith) (omega (arith, below))
    (node-used m e used)
    (λ k g is. let told = node_tells m k (path_of (table m) e) g is in
    one_path (table m) rules k e told.0 used (sym told.1))

pub get-none : (m : List ℕ) (p : Path) → ((e : ℕ) → IsUsed (table m) e → path_of (table m) e ≡ p → ⊥)
    → get (tree_of m) p ≡ None
unfolding tree_of
get-none m p never =
    get-from_entries nat_list_cmp_total (filter_map (node m) (range_with_len 0 64)) p
    ∙ missed_node (node m) 0 64 p (λ k g from is. let told = node_tells m k p g is in never k told.0 (sym told.1))

-- what the tree has at a path is the file of an entry with this path
pub entry_found : (m : List ℕ) (p : Path) (f : File) → get (tree_of m) p ≡ Some f
    → (e : ℕ) × IsUsed (table m) e × (path_of (table m) e ≡ p) × (f ≡ file_in m e)
unfolding tree_of
entry_found m p f found =
    let nodes = filter_map (node m) (range_with_len 0 64) in
    let at = node_found (node m) 0 64 p f (sym (get-from_entries nat_list_cmp_total nodes p) ∙ found) in
    let told = node_tells m at.0 p f at.1 in
    (at.0, told.0, sym told.1, told.2)

pub exists-used : (m : List ℕ) → IsTable (table m) → (e : ℕ) (p : Path) → IsUsed (table m) e → path_of (table m) e ≡ p
    → exists (tree_of m) p ≡ true
exists-used m rules e p used is =
    ap (λ (q : Path). exists (tree_of m) q) (sym is) ∙ ap (λ (o : Option File). is_some o) (get-used m rules e used)

pub exists-none : (m : List ℕ) (p : Path) → ((e : ℕ) → IsUsed (table m) e → path_of (table m) e ≡ p → ⊥)
    → exists (tree_of m) p ≡ false
exists-none m p never = ap (λ (o : Option File). is_some o) (get-none m p never)

pub file_at_entry : (m : List ℕ) → IsTable (table m) → (e : ℕ) (p : Path) → IsUsed (table m) e
    → path_of (table m) e ≡ p
    → file_at (tree_of m) p ≡ file_in m e
file_at_entry m rules e p used is =
    ap (file_at (tree_of m)) (sym is) ∙ ap (λ (o : Option File). unwrap_or o no_file) (get-used m rules e used)

pub ruleset files = (get-used, get-none)

kind_tested : (b : Bool) (name : Option (List ℕ)) (short : Option ℕ) (body : Body)
    → is_dedicated (if b then dedicated name else elementary short body) ≡ b
kind_tested true name short body = refl
kind_tested false name short body = refl

-- an entry's file is a dedicated file where its kind is 1
pub dedicated_entry : (x : Entry) (bytes : List ℕ) → is_dedicated (file_of x bytes).kind ≡ (x.kind == 1)
unfolding file_of
dedicated_entry x bytes = kind_tested (x.kind == 1) _ _ _
