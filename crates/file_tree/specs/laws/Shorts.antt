-- What a short identifier names: the child that the table has with it is the one that the tree has.
use Rattle.std.specs.Prelude.{◌≤◌, ◌≡◌, ◌≢◌, ◌==◌, ◌<◌, ◌+◌, ℕ, zero, suc, Bool, true, false, cond, not, ◌&&◌}
use Rattle.std.specs.Prelude.{if◌then◌else◌}
use Rattle.std.specs.Prelude.{List, [], ◌∷◌, length, Option, None, Some, option_map, IfSome}
use Rattle.std.specs.List.{find, range_with_len, filter_map, cons_option}
use Rattle.std.specs.Option.{option_map_or}
use Rattle.std.specs.Ordering.{nat_cmp}
use Rattle.std.specs.Cmp.Lexicographic.{slice_cmp, nat_list_cmp_total}
use Rattle.std.specs.FinMap.{from_entries, entries, get-entries, entries-insert, slice_cmp-IsAntisymmetric}
use Rattle.std.specs.FinMap.{nat_cmp-IsAntisymmetric}
use Rattle.std.specs.FinMap.Entries.{put, by_order}
use Rattle.std.proofs.Common.{refl, sym, ◌∙◌, ap, ap₂, subst, arith, inl, inr, true≢false, Ordering, Less, Equal}
use Rattle.std.proofs.Common.{Greater}
use Rattle.std.proofs.lemmas.Bool.{and_parts}
use Rattle.std.proofs.lemmas.Bool.Decides.{eqb_tells}
use Rattle.std.proofs.lemmas.Option.{none-some, same_Some}
use Rattle.std.proofs.lemmas.List.{nil_from_length}
use Rattle.file_tree.specs.declared.entry.Entry.{Entry}
use Rattle.card_model.specs.FileTrees.{Path, File, Body, dedicated, elementary, parent, short_of}
use Rattle.card_model.specs.Selectors.{is_child, has_short, child_by_short}
use Rattle.file_tree.specs.Entries.{free_entry, file_of}
use Rattle.file_tree.specs.Table.{table, entry_in, path_of, IsUsed, IsChild, HasShort, IsTable}
use Rattle.file_tree.specs.Trees.{content, node, tree_of, file_in}
use Rattle.file_tree.specs.laws.Tables.{length-table}
use Rattle.file_tree.specs.laws.Paths.{path-zero, path_of-empty, parent_path, one_path, parent_used}
use Rattle.file_tree.specs.laws.Nodes.{Node, find_path, used_small}
use Rattle.card_model.specs.laws.Orders.{same_path, one_of_same, same_of_one}
use Rattle.file_tree.specs.laws.Nodes.{node_tells, get-used}
use Rattle.file_tree.specs.TreeParts.{TellsShort}
use Rattle.file_tree.specs.laws.Costs.{no_entries}

-- what holds of each of these nodes
abbrev pub EachNode : (Node → Type 0) → List Node → Type 0
EachNode P [] = Unit {0}
EachNode P (n ∷ ns) = P n × EachNode P ns

put_each : (P : Node → Type 0) (k : Path) (v : File) (es : List Node) → P (k, v) → EachNode P es
    → EachNode P (put (slice_cmp nat_cmp) k v es)
put_each P k v [] here each = (here, tt)
put_each P k v (e ∷ es) here each = at_order (slice_cmp nat_cmp k e.0) refl (put_each P k v es here each.1)
  where
    at_order : (r : Ordering) → slice_cmp nat_cmp k e.0 ≡ r → EachNode P (put (slice_cmp nat_cmp) k v es)
        → EachNode P (by_order r ((k, v) ∷ e ∷ es) ((e.0, v) ∷ es) (e ∷ put (slice_cmp nat_cmp) k v es))
    at_order Less is rest = (here, each)
    at_order Equal is rest =
        let same : k ≡ e.0 = slice_cmp-IsAntisymmetric nat_cmp-IsAntisymmetric k e.0 is in
        let family : Path → Type 0 = λ q. P (q, v) in
        (subst family same here, each.1)
    at_order Greater is rest = (each.0, rest)

-- what holds of each node of a list holds of each that the tree of them has
pub entries_each : (P : Node → Type 0) (ns : List Node) → EachNode P ns
    → EachNode P (entries (from_entries {R = slice_cmp nat_cmp} ns))
entries_each P [] each =
    let family : List Node → Type 0 = λ es. EachNode P es in
    subst family (sym no_entries) tt
entries_each P (n ∷ ns) each =
    let family : List Node → Type 0 = λ es. EachNode P es in
    let tree = from_entries {R = slice_cmp nat_cmp} ns in
    subst family (sym (entries-insert nat_list_cmp_total tree n.0 n.1))
    (put_each P n.0 n.1 (entries tree) each.0 (entries_each P ns each.1))

nodes_first : (P : Node → Type 0) (o : Option Node) (rest : List Node) → ((x : Node) → o ≡ Some x → P x)
    → EachNode P rest
    → EachNode P (cons_option o rest)
nodes_first P None rest first each = each
nodes_first P (Some x) rest first each = (first x refl, each)

pub nodes_each : (P : Node → Type 0) (nodes : ℕ → Option Node) (a n : ℕ)
    → ((e : ℕ) (x : Node) → nodes e ≡ Some x → P x)
    → EachNode P (filter_map nodes (range_with_len a n))
nodes_each P nodes a zero each = tt
nodes_each P nodes a (suc n) each =
    nodes_first P (nodes a) (filter_map nodes (range_with_len (a + 1) n)) (each a) (nodes_each P nodes (a + 1) n each)

-- none of these nodes passes a test
pub find_none : (test : Node → Bool) (ns : List Node) → EachNode (λ n. test n ≡ false) ns → find test ns ≡ None
find_none test [] each = refl
find_none test (n ∷ ns) each = ap (λ (b : Bool). if b then Some n else find test ns) each.0 ∙ find_none test ns each.1

-- the one path whose node passes a test
pub find_one : (test : Node → Bool) (p : Path) (f : File) (ns : List Node) → test (p, f) ≡ true → find_path p ns
    ≡ Some f → EachNode (λ n. test n ≡ true → n.0 ≡ p) ns → option_map (λ n. n.0) (find test ns) ≡ Some p
find_one test p f [] passes found each = absurd (none-some f found)
find_one test p f (n ∷ ns) passes found each =
    by_test (test n) refl (λ rest. find_one test p f ns passes rest each.1)
  where
    by_path : (b : Bool) → same_path p n.0 ≡ b → cond b (Some n.1) (find_path p ns) ≡ Some f → test n ≡ false
        → find_path p ns ≡ Some f
    by_path true same is fails =
        let here : n ≡ (p, f) = (λ i. (sym (one_of_same p n.0 same) i, same_Some n.1 f is i)) in
        absurd (true≢false (sym passes ∙ sym (ap test here) ∙ fails))
    by_path false same is fails = is

    by_test : (b : Bool) → test n ≡ b → (find_path p ns ≡ Some f → option_map (λ x. x.0) (find test ns) ≡ Some p)
        → option_map (λ x. x.0) (if test n then Some n else find test ns) ≡ Some p
    by_test true is rest = ap (λ (b : Bool). option_map (λ x. x.0) (if b then Some n else find test ns)) is
        ∙ ap (λ (q : Path). Some q) (each.0 is)
    by_test false is rest = ap (λ (b : Bool). option_map (λ x. x.0) (if b then Some n else find test ns)) is
        ∙ rest (by_path (same_path p n.0) refl found is)

short_tested : (is_df none : Bool) (name : Option (List ℕ)) (short n : ℕ) (body : Body)
    → (is_df ≡ true → (short == n) ≡ false)
    → (none ≡ true → (short == n) ≡ false)
    → option_map_or (λ s. s == n) (short_of (if is_df then dedicated name
    else elementary (if none then None else Some short) body)) false
    ≡ (short == n)
short_tested true none name short n body df nothing = sym (df refl)
short_tested false true name short n body df nothing = sym (nothing refl)
short_tested false false name short n body df nothing = refl

-- whether an entry's file has a short identifier
pub entry_short : (x : Entry) (bytes : List ℕ) (n : ℕ) → HasShort x → n ≢ 0
    → has_short (file_of x bytes) n ≡ (x.short == n)
unfolding file_of
entry_short x bytes n rule some =
    short_tested (x.kind == 1) (x.short == 0) _ x.short n _
    (λ is. elim (eqb_tells x.kind 1) [
      | inl same ↦ zero_differs (rule.of_ef same.1)
      | inr other ↦ absurd (true≢false (sym is ∙ other.0))
    ])
    (λ is. elim (eqb_tells x.short 0) [
      | inl same ↦ zero_differs same.1
      | inr other ↦ absurd (true≢false (sym is ∙ other.0))
    ])
  where
    zero_differs : x.short ≡ 0 → (x.short == n) ≡ false
    zero_differs none = elim (eqb_tells x.short n) [
      | inl same ↦ absurd (some (sym same.1 ∙ none))
      | inr other ↦ other.0
    ]

module _ (m : List ℕ) (rules : IsTable (table m)) (df n : ℕ) (used_df : IsUsed (table m) df) (some : n ≢ 0) where
  abbrev names_it : Node → Bool
  names_it x = is_child (path_of (table m) df) x.0 && has_short x.1 n

  file_short : (e : ℕ) → IsUsed (table m) e → has_short (file_in m e) n ≡ ((entry_in (table m) e).short == n)
  file_short e used =
      let within : e < length (table m) = (let l = length-table m in let small = used_small m e used in
      omega (arith, l, small)) in
      entry_short (entry_in (table m) e) (content m (entry_in (table m) e)) n
      ((rules.each e free_entry within).used used).short some

  -- whether an entry's path is that of a child
  child_path : (e : ℕ) → IsChild (table m) df e → is_child (path_of (table m) df) (path_of (table m) e) ≡ true
  child_path e child =
      let some_path : (length (path_of (table m) e) == 0) ≡ false =
      elim (eqb_tells (length (path_of (table m) e)) 0) [
        | inl empty ↦ absurd (
            let zero_at = path_of-empty (table m) rules e child.used (nil_from_length (path_of (table m) e) empty.1) in
            let below = child.below in
            omega (arith, zero_at, below))
        | inr other ↦ other.0
      ] in
      ap₂ (λ (b : Bool) (p : Path). not b && same_path p (path_of (table m) df)) some_path
      (parent_path (table m) rules e child.used ∙ ap (path_of (table m)) child.parent)
      ∙ same_of_one (path_of (table m) df) (path_of (table m) df) refl

  path_child : (e : ℕ) → IsUsed (table m) e → is_child (path_of (table m) df) (path_of (table m) e) ≡ true
      → IsChild (table m) df e
  path_child e used is = elim (eqb_tells e 0) [
    | inl same ↦ absurd (true≢false (sym is ∙ ap (λ (p : Path). is_child (path_of (table m) df) p)
        (path-zero (table m) 7 e same.1)))
    | inr other ↦
        let above : 0 < e = (let d = other.1 in omega (arith, d)) in
        let same : same_path (parent (path_of (table m) e)) (path_of (table m) df) ≡ true = (and_parts _ _ is).1 in
        record {
          below = above;
          used = used;
          parent = one_path (table m) rules (entry_in (table m) e).parent df
              (parent_used (table m) rules e above used) used_df
              (sym (parent_path (table m) rules e used) ∙ one_of_same _ _ same);
        }
  ]

  -- what a node that passes the test says of its entry
  named_child : (e : ℕ) (x : Node) → node m e ≡ Some x → names_it x ≡ true
      → IsChild (table m) df e × ((entry_in (table m) e).short ≡ n) × (x.0 ≡ path_of (table m) e)
  named_child e x is passes =
      let told = node_tells m e x.0 x.1 is in
      let here : (is_child (path_of (table m) df) (path_of (table m) e) && has_short (file_in m e) n) ≡ true =
      (λ i. is_child (path_of (table m) df) (sym told.1 i) && has_short (sym told.2 i) n) ∙ passes in
      let short : ((entry_in (table m) e).short == n) ≡ true = sym (file_short e told.0) ∙ (and_parts _ _ here).1 in (
        path_child e told.0 (and_parts _ _ here).0,
        elim (eqb_tells (entry_in (table m) e).short n) [
          | inl same ↦ same.1
          | inr other ↦ absurd (true≢false (sym short ∙ other.0))
        ],
        told.1,
      )

  -- The child that the table has with the short identifier is the tree's.
  pub short_named : (found : Option ℕ) → TellsShort (table m) df n found
      → option_map (path_of (table m)) found ≡ child_by_short (tree_of m) (path_of (table m) df) n
  unfolding tree_of
  short_named None none =
      sym (ap (λ (o : Option Node). option_map (λ x. x.0) o) (find_none names_it (entries (tree_of m))
      (entries_each (λ x. names_it x ≡ false) (filter_map (node m) (range_with_len 0 64))
      (nodes_each (λ x. names_it x ≡ false) (node m) 0 64 (λ e x is. never e x is (names_it x) refl)))))
    where
      never : (e : ℕ) (x : Node) → node m e ≡ Some x → (b : Bool) → names_it x ≡ b → names_it x ≡ false
      never e x is true passes = let child = named_child e x is passes in absurd (none e child.0 child.1)
      never e x is false fails = fails
  short_named (Some e) told =
      let child = told.0 in
      let short_there : ((entry_in (table m) e).short == n) ≡ true = elim (eqb_tells (entry_in (table m) e).short n) [
        | inl same ↦ same.0
        | inr other ↦ absurd (other.1 told.1)
      ] in
      let passes : names_it (path_of (table m) e, file_in m e) ≡ true =
      ap₂ (λ (b c : Bool). b && c) (child_path e child) (file_short e child.used ∙ short_there) in
      sym (find_one names_it (path_of (table m) e) (file_in m e) (entries (tree_of m)) passes
      (sym (get-entries (tree_of m) (path_of (table m) e)) ∙ get-used m rules e child.used)
      (entries_each (λ x. names_it x ≡ true → x.0 ≡ path_of (table m) e) (filter_map (node m) (range_with_len 0 64))
      (nodes_each (λ x. names_it x ≡ true → x.0 ≡ path_of (table m) e) (node m) 0 64 (λ k x is named.
      let other = named_child k x is named in
      let same = rules.short_identifiers df k e other.0 child (λ zero_short. some (sym other.1 ∙ zero_short)) (other.1
      ∙ sym told.1) in
      other.2 ∙ ap (path_of (table m)) same))))

  -- and it is an elementary file's
  pub short_elementary : (e : ℕ) → TellsShort (table m) df n (Some e) → 2 ≤ (entry_in (table m) e).kind
  short_elementary e told =
      let used = told.0.used in
      let within : e < length (table m) =
      (let l = length-table m in let small = used_small m e used in omega (arith, l, small)) in
      let none_of_df = ((rules.each e free_entry within).used used).short.of_ef in
      elim (eqb_tells (entry_in (table m) e).kind 1) [
        | inl same ↦ absurd (some (sym told.1 ∙ none_of_df same.1))
        | inr other ↦ let differ = other.1 in omega (arith, used, differ)
      ]

-- the answer of a look-up, and what it is
pub short_found : (m : List ℕ) → IsTable (table m) → (df n : ℕ) → IsUsed (table m) df → n ≢ 0 → (found : Option ℕ)
    → TellsShort (table m) df n found → IfSome found (λ e. 2 ≤ (entry_in (table m) e).kind)
short_found m rules df n used some None told = tt
short_found m rules df n used some (Some e) told = short_elementary m rules df n used some e told
