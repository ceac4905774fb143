-- What look-ups before a new file tell of the tree: whether it is refused.
use Rattle.std.specs.Prelude.{◌≡◌, ◌≢◌, ◌==◌, ◌<◌, ◌≤◌, ◌+◌, ◌&&◌, ℕ, zero, suc, Bool, true, false, if◌then◌else◌}
use Rattle.std.specs.Prelude.{min, List, [], ◌∷◌, ◌++◌, length, slice_index, Option, None, Some, is_some, option_map}
use Rattle.std.specs.List.{find, range_with_len, filter_map}
use Rattle.std.specs.FinMap.{entries, get-entries}
use Rattle.std.proofs.Common.{refl, sym, ◌∙◌, ap, arith, inl, inr, true≢false}
use Rattle.std.proofs.lemmas.List.{length-append, length-take, length-take-le}
use Rattle.std.proofs.lemmas.Bool.Decides.{eqb_tells}
use Rattle.block_chain.specs.BlockWords.{page_words}
use Rattle.file_tree.specs.declared.entry.Entry.{Entry}
use Rattle.file_tree.specs.declared.entry.EntryHead.{EntryHead}
use Rattle.card_model.specs.FileTrees.{Path, File, Body, dedicated, elementary, exists}
use Rattle.file_tree.specs.Entries.{head_of, free_entry, entry_told, entry_of, file_of, name_of}
use Rattle.file_tree.specs.Table.{table, entry_in, ancestor, path_in, path_of, IsUsed, IsTable}
use Rattle.file_tree.specs.Trees.{content, node, tree_of, file_in}
use Rattle.card_model.specs.Selectors.{is_named}
use Rattle.card_model.specs.NewFiles.{has_name}
use Rattle.file_tree.specs.Indexes.{TellsChild}
use Rattle.file_tree.specs.Naming.{BearsNameAt, TellsNamed}
use Rattle.file_tree.specs.laws.Tables.{length-table, entry_in-table}
use Rattle.file_tree.specs.laws.Paths.{path-zero, path-below, path-enough, child_of_path, path_of_child}
use Rattle.file_tree.specs.laws.Nodes.{Node, used_small, node_tells}
use Rattle.card_model.specs.laws.Orders.{same_path, one_of_same, same_of_one}
use Rattle.file_tree.specs.laws.Nodes.{get-used, exists-used, exists-none}
use Rattle.file_tree.specs.laws.Shorts.{entries_each, nodes_each, find_none, find_one}

-- whether the file of an entry has the name, by its kind
kind_named : (is_df none : Bool) (own name : List ℕ) (short : Option ℕ) (body : Body)
    → is_named name (if is_df then dedicated (if none then None else Some own) else elementary short body)
    ≡ (is_df && (if none then false else same_path own name))
kind_named true true own name short body = refl
kind_named true false own name short body = refl
kind_named false none own name short body = refl

file_named : (x : Entry) (bytes name : List ℕ)
    → is_named name (file_of x bytes).kind
    ≡ ((x.kind == 1) && (if x.name_length == 0 then false else same_path (name_of x) name))
unfolding file_of
file_named x bytes name = kind_named (x.kind == 1) (x.name_length == 0) (name_of x) name _ _

-- length of a path, by its steps
pub path_most : (t : List Entry) (n e : ℕ) → length (path_in t n e) ≤ n
unfolding path_in
path_most t zero e = omega arith
path_most t (suc n) e = elim (eqb_tells e 0) [
  | inl same ↦ (let none = ap (λ (p : Path). length p) (path-zero t (suc n) e same.1) in omega (arith, none))
  | inr other ↦ (
      let parts = ap (λ (p : Path). length p) (path-below t n e other.1) in
      let both = length-append (path_in t n (entry_in t e).parent) ((entry_in t e).identifier ∷ []) in
      let rest = path_most t n (entry_in t e).parent in
      omega (arith, parts, both, rest))
]

path_whole : (t : List Entry) → (entry_in t 0).parent ≡ 0 → (n e : ℕ) → ancestor t n e ≢ 0
    → length (path_in t (suc n) e) ≡ suc n
unfolding path_in ancestor
path_whole t master zero e up =
    let parts = ap (λ (p : Path). length p) (path-below t zero e up) in
    omega (arith, parts)
path_whole t master (suc n) e up =
    let some : e ≢ 0 =
    λ is. up (at_master n (entry_in t e).parent (ap (λ (k : ℕ). (entry_in t k).parent) is ∙ master)) in
    let parts = ap (λ (p : Path). length p) (path-below t (suc n) e some) in
    let both = length-append (path_in t (suc n) (entry_in t e).parent) ((entry_in t e).identifier ∷ []) in
    let rest = path_whole t master n (entry_in t e).parent up in
    omega (arith, parts, both, rest)
  where
    at_master : (k f : ℕ) → f ≡ 0 → ancestor t k f ≡ 0
    at_master zero f is = is
    at_master (suc k) f is = at_master k (entry_in t f).parent (ap (λ (j : ℕ). (entry_in t j).parent) is ∙ master)

-- an entry has room for a name of sixteen bytes
name_room : (w : List ℕ) → length (entry_of w).name ≡ 16
unfolding entry_of
name_room w = elim (eqb_tells (slice_index w 0) 0) [
  | inl same ↦ ap (λ (b : Bool). length (if b then free_entry else entry_told w).name) same.0
  | inr other ↦ ap (λ (b : Bool). length (if b then free_entry else entry_told w).name) other.0
]

pub name_long : (m : List ℕ) (f : ℕ) → f < 64 → length (entry_in (table m) f).name ≡ 16
name_long m f lt = ap (λ (x : Entry). length x.name) (entry_in-table m f lt) ∙ name_room (page_words m (1 + f))

-- the head of an entry tells how long its name is
pub head_as_long : (m : List ℕ) (f : ℕ) → f < 64 → (name : List ℕ) (h : EntryHead)
    → h ≡ head_of (entry_in (table m) f) → BearsNameAt (table m) name f → min h.name_length 16 ≡ length name
head_as_long m f lt name h is bears =
    let x = entry_in (table m) f in
    ap (λ (y : EntryHead). min y.name_length 16) is ∙ ap (min x.name_length) (sym (name_long m f lt))
    ∙ sym (length-take x.name_length x.name) ∙ ap (λ (l : List ℕ). length l) bears.name

-- no file has an empty name
pub no_empty_name : (m : List ℕ) (f : ℕ) → f < 64 → (name : List ℕ) → length name ≡ 0 → BearsNameAt (table m) name f → ⊥
no_empty_name m f lt name none bears =
    let x = entry_in (table m) f in
    let same = ap (λ (l : List ℕ). length l) bears.name in
    let long = length-take x.name_length x.name in
    let room = name_long m f lt in
    let some : 0 < x.name_length = let s = bears.some in omega (arith, s) in
    let z : ⊥ = omega (arith, none, same, long, room, some) in z

module _ (m : List ℕ) (rules : IsTable (table m)) where
  -- a child has the identifier where there is a file at the path
  pub child_told : (df id : ℕ) (found : Option ℕ) → IsUsed (table m) df → TellsChild (table m) df id found
      → exists (tree_of m) (path_of (table m) df ++ id ∷ []) ≡ is_some found
  child_told df id None used none = exists-none m (path_of (table m) df ++ id ∷ []) (λ e there is.
      let child = child_of_path (table m) rules df e id used there is in none e child.0 child.1)
  child_told df id (Some e) used told = exists-used m rules e (path_of (table m) df ++ id ∷ []) told.0.used
      (path_of_child (table m) rules df e told.0 ∙ ap (λ (k : ℕ). path_of (table m) df ++ k ∷ []) told.1)

  -- a dedicated file is on the last level where six steps lead not to the master file
  pub level_told : (df : ℕ) (deepest : Bool) → IsUsed (table m) df → (deepest ≡ true → ancestor (table m) 6 df ≢ 0)
      → (deepest ≡ false → ancestor (table m) 6 df ≡ 0) → (length (path_of (table m) df) == 7) ≡ deepest
  level_told df true used deep flat = elim (eqb_tells (length (path_of (table m) df)) 7) [
    | inl same ↦ same.0
    | inr other ↦ absurd (other.1 (path_whole (table m) rules.master.parent 6 df (deep refl)))
  ]
  level_told df false used deep flat = elim (eqb_tells (length (path_of (table m) df)) 7) [
    | inl same ↦ absurd (
        let shorter = ap (λ (p : Path). length p) (path-enough (table m) 6 df rules.master.parent (flat refl)) in
        let most = path_most (table m) 6 df in
        let seven = same.1 in
        omega (arith, shorter, most, seven))
    | inr other ↦ other.0
  ]

  module _ (name : List ℕ) where
    abbrev names_it : Node → Bool
    names_it n = is_named name n.1.kind

    named_entry : (f : ℕ) → BearsNameAt (table m) name f → is_named name (file_in m f).kind ≡ true
    named_entry f is =
        let x = entry_in (table m) f in
        file_named x (content m x) name
        ∙ elim (eqb_tells x.kind 1) [
          | inl df ↦ elim (eqb_tells x.name_length 0) [
            | inl none ↦ absurd (is.some none.1)
            | inr some ↦ (λ i. df.0 i && (if some.0 i then false else same_of_one (name_of x) name is.name i))
          ]
          | inr other ↦ absurd (other.1 is.kind)
        ]

    entry_named : (f : ℕ) → is_named name (file_in m f).kind ≡ true → BearsNameAt (table m) name f
    entry_named f is =
        let x = entry_in (table m) f in
        let told = sym (file_named x (content m x) name) ∙ is in
        elim (eqb_tells x.kind 1) [
          | inl df ↦ elim (eqb_tells x.name_length 0) [
            | inl none ↦
                absurd (true≢false (sym told
                ∙ (λ i. df.0 i && (if none.0 i then false else same_path (name_of x) name))))
            | inr some ↦ record {
              kind = df.1;
              some = some.1;
              name = one_of_same (name_of x) name
                  (sym (λ i. df.0 i && (if some.0 i then false else same_path (name_of x) name)) ∙ told);
            }
          ]
          | inr other ↦ absurd (true≢false (sym told
              ∙ ap (λ (b : Bool). b && (if x.name_length == 0 then false else same_path (name_of x) name)) other.0))
        ]

    named_used : (f : ℕ) → BearsNameAt (table m) name f → IsUsed (table m) f
    named_used f is none = let k = is.kind in let z : ⊥ = omega (arith, k, none) in z

    -- two names alike are one file's
    one_name : (f g : ℕ) → BearsNameAt (table m) name f → BearsNameAt (table m) name g → f ≡ g
    one_name f g one two =
        let used = named_used f one in
        let within : f < length (table m) =
        (let l = length-table m in let small = used_small m f used in omega (arith, l, small)) in
        let file = (rules.each f free_entry within).used used in
        let whole = name_long m f (used_small m f used) in
        let most = file.name.most in
        let size = length-take-le (entry_in (table m) f).name_length (entry_in (table m) f).name
        (omega (arith, whole, most)) in
        let some = one.some in
        let long : 0 < length (name_of (entry_in (table m) f)) = omega (arith, size, some) in
        rules.names f g used (named_used g two) long (one.name ∙ sym two.name)

    -- The file that the table has with the name is the one that the tree has,
    pub name_found : (found : Option ℕ) → TellsNamed (table m) name found
        → option_map (λ x. x.0) (find names_it (entries (tree_of m))) ≡ option_map (path_of (table m)) found
    unfolding tree_of
    name_found None none = ap (λ (o : Option Node). option_map (λ x. x.0) o) (find_none names_it (entries (tree_of m))
        (entries_each (λ x. names_it x ≡ false) (filter_map (node m) (range_with_len 0 64))
        (nodes_each (λ x. names_it x ≡ false) (node m) 0 64 (λ e x is. never e x is (names_it x) refl))))
      where
        never : (e : ℕ) (x : Node) → node m e ≡ Some x → (b : Bool) → names_it x ≡ b → names_it x ≡ false
        never e x is true passes =
            let told = node_tells m e x.0 x.1 is in
            absurd (none e (entry_named e (ap (λ (file : File). is_named name file.kind) (sym told.2) ∙ passes)))
        never e x is false fails = fails
    name_found (Some f) named =
        let used = named_used f named in
        find_one names_it (path_of (table m) f) (file_in m f) (entries (tree_of m)) (named_entry f named)
        (sym (get-entries (tree_of m) (path_of (table m) f)) ∙ get-used m rules f used)
        (entries_each (λ x. names_it x ≡ true → x.0 ≡ path_of (table m) f) (filter_map (node m) (range_with_len 0 64))
        (nodes_each (λ x. names_it x ≡ true → x.0 ≡ path_of (table m) f) (node m) 0 64 (λ k x is passes.
        let told = node_tells m k x.0 x.1 is in
        let other = entry_named k (ap (λ (file : File). is_named name file.kind) (sym told.2) ∙ passes) in
        told.1 ∙ ap (path_of (table m)) (one_name k f other named))))

    -- so that the tree has one where the table does.
    pub name_told : (found : Option ℕ) → TellsNamed (table m) name found → has_name (tree_of m) name ≡ is_some found
    name_told found told = sym (some_mapped (find names_it (entries (tree_of m))))
        ∙ ap (λ (o : Option Path). is_some o) (name_found found told) ∙ some_path found
      where
        some_mapped : (o : Option Node) → is_some (option_map (λ x. x.0) o) ≡ is_some o
        some_mapped None = refl
        some_mapped (Some x) = refl

        some_path : (o : Option ℕ) → is_some (option_map (path_of (table m)) o) ≡ is_some o
        some_path None = refl
        some_path (Some f) = refl
