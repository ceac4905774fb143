-- Free space, counted: the blocks of the free chain, and the entries that no file has.
use Rattle.file_tree.specs.Formats.{block_count}
use Rattle.nvm_board.specs.Facts.{IsMemory}
use Rattle.std.specs.Prelude.{◌≡◌, ◌≢◌, ◌==◌, ◌<◌, ◌≤◌, ◌+◌, ◌-◌, ◌*◌, ℕ, zero, suc, Bool, true, false, cond}
use Rattle.std.specs.Prelude.{if◌then◌else◌}
use Rattle.std.specs.Prelude.{List, [], ◌∷◌, length, map, take, nat_le, Option, None, Some, is_some, unwrap_or, All}
use Rattle.std.specs.List.{range_with_len, filter_map, cons_option, sum_by, count_by}
use Rattle.std.specs.Option.{option_map_or}
use Rattle.std.specs.Ordering.{nat_cmp, is_eq}
use Rattle.std.specs.Cmp.Lexicographic.{slice_cmp, nat_list_cmp_total}
use Rattle.std.specs.FinMap.{from_entries, get, entries, insert, len, empty, len-empty, get-from_entries, get-entries}
use Rattle.std.specs.FinMap.{len-entries, len-insert, entries-insert}
use Rattle.std.specs.FinMap.Entries.{put, by_order}
use Rattle.std.proofs.Common.{refl, sym, ◌∙◌, ap, ap₂, subst, arith, inl, inr, true≢false, Ordering, Less, Equal}
use Rattle.std.proofs.Common.{Greater, length-append, length-take}
use Rattle.std.proofs.lemmas.List.Sums.{sum_by-append}
use Rattle.std.proofs.lemmas.Bool.Decides.{eqb_tells, leb_tells}
use Rattle.block_chain.specs.declared.chain.Extent.{Extent}
use Rattle.block_chain.specs.BlockWords.{page_words}
use Rattle.block_chain.specs.Chains.{bytes_of, free_chain}
use Rattle.block_chain.specs.Layout.{IsExtent, blocks_of, laid_out}
use Rattle.block_chain.specs.laws.Bytes.{length-bytes_of, leads_blocks}
use Rattle.file_tree.specs.declared.entry.Entry.{Entry}
use Rattle.card_model.specs.FileTrees.{Path, File, transparent, linear, cyclic, dedicated, elementary}
use Rattle.card_model.specs.Spaces.{blocks_for, cost, cost_of, free_space}
use Rattle.file_tree.specs.Entries.{free_entry, entry_of, file_of, entry_capacity, extent_told, extent_of}
use Rattle.file_tree.specs.Entries.{linear_records, cyclic_records}
use Rattle.file_tree.specs.Table.{table, entry_in, extents, free_entries, HasBody, IsTable}
use Rattle.file_tree.specs.Trees.{content, node, tree_of, TreeStands}
use Rattle.file_tree.specs.laws.Tables.{length-table, entry_in-table}
use Rattle.file_tree.specs.laws.Paths.{one_path}
use Rattle.file_tree.specs.laws.Nodes.{Node, find_path, missed_node, node-used, node-free, node_tells}

-- sums, one by one
pub sum-cons : {X : Type 0} (f : X → ℕ) (x : X) (xs : List X) → sum_by f (x ∷ xs) ≡ f x + sum_by f xs
sum-cons f x xs = let e = sum_by-append f (x ∷ []) xs in let z : 0 + f x ≡ f x = omega arith in e
    ∙ ap (λ (n : ℕ). n + sum_by f xs) z

sum-option : {X : Type 0} (f : X → ℕ) (o : Option X) (xs : List X)
    → sum_by f (cons_option o xs) ≡ option_map_or f o 0 + sum_by f xs
sum-option f None xs = let z : sum_by f xs ≡ 0 + sum_by f xs = omega arith in z
sum-option f (Some x) xs = sum-cons f x xs

-- no path stands twice in a list of nodes
abbrev pub AreDistinct : List Node → Type 0
AreDistinct [] = Unit {0}
AreDistinct (n ∷ ns) = (find_path n.0 ns ≡ None) × AreDistinct ns

not_found : (e : Node) → Some e.1 ≡ None → ⊥
not_found e is = true≢false (ap (λ (o : Option File). is_some o) is)

-- the first of the others comes behind it, or before it; it has another path
at_order : (f : Node → ℕ) (k : Path) (v : File) (e : Node) (es : List Node)
    → (find_path k es ≡ None → sum_by f (put (slice_cmp nat_cmp) k v es) ≡ f (k, v) + sum_by f es)
    → (r : Ordering) → slice_cmp nat_cmp k e.0 ≡ r → cond (is_eq r) (Some e.1) (find_path k es) ≡ None
    → sum_by f (by_order r ((k, v) ∷ e ∷ es) ((e.0, v) ∷ es) (e ∷ put (slice_cmp nat_cmp) k v es))
    ≡ f (k, v) + sum_by f (e ∷ es)
at_order f k v e es behind Less is none = sum-cons f (k, v) (e ∷ es)
at_order f k v e es behind Equal is none = absurd (not_found e none)
at_order f k v e es behind Greater is none =
    let rest = behind none in
    let first = sum-cons f e (put (slice_cmp nat_cmp) k v es) in
    let old = sum-cons f e es in
    omega (arith, rest, first, old)

-- a node that is put among others, none of which has its path
sum-put : (f : Node → ℕ) (k : Path) (v : File) (es : List Node) → find_path k es ≡ None
    → sum_by f (put (slice_cmp nat_cmp) k v es) ≡ f (k, v) + sum_by f es
sum-put f k v [] none = sum-cons f (k, v) []
sum-put f k v (e ∷ es) none =
    let behind : find_path k es ≡ None → sum_by f (put (slice_cmp nat_cmp) k v es) ≡ f (k, v) + sum_by f es =
    sum-put f k v es in
    at_order f k v e es behind (slice_cmp nat_cmp k e.0) refl none

no_nodes : (ns : List Node) → length ns ≡ 0 → ns ≡ []
no_nodes [] none = refl
no_nodes (n ∷ ns) none = absurd (omega arith)

pub no_entries : entries (from_entries {K = Path} {X = File} {R = slice_cmp nat_cmp} []) ≡ []
no_entries = no_nodes _ (sym (len-entries (empty {K = Path} {X = File} {R = slice_cmp nat_cmp}))
    ∙ len-empty (slice_cmp nat_cmp) File)

-- what a tree has of a list of nodes: each of them, once
sum-nodes : (f : Node → ℕ) (ns : List Node) → AreDistinct ns
    → sum_by f (entries (from_entries {R = slice_cmp nat_cmp} ns)) ≡ sum_by f ns
sum-nodes f [] distinct = ap (sum_by f) (no_entries)
sum-nodes f (n ∷ ns) distinct =
    let tree = from_entries {R = slice_cmp nat_cmp} ns in
    let none : find_path n.0 (entries tree) ≡ None =
    sym (get-entries tree n.0) ∙ get-from_entries nat_list_cmp_total ns n.0 ∙ distinct.0 in
    let rest = sum-nodes f ns distinct.1 in
    ap (sum_by f) (entries-insert nat_list_cmp_total tree n.0 n.1) ∙ sum-put f n.0 n.1 (entries tree) none
    ∙ ap (λ (k : ℕ). f n + k) rest ∙ sym (sum-cons f n ns)

length-nodes : (ns : List Node) → AreDistinct ns
    → length (entries (from_entries {R = slice_cmp nat_cmp} ns)) ≡ length ns
length-nodes [] distinct = ap (λ (es : List Node). length es) no_entries
length-nodes (n ∷ ns) distinct =
    let tree = from_entries {R = slice_cmp nat_cmp} ns in
    let none : get tree n.0 ≡ None = get-from_entries nat_list_cmp_total ns n.0 ∙ distinct.0 in
    let rest = length-nodes ns distinct.1 in
    let grown : len (insert tree n.0 n.1) ≡ len tree + 1 = len-insert nat_list_cmp_total tree n.0 n.1
    ∙ ap (λ (o : Option File). cond (is_some o) (len tree) (len tree + 1)) none in
    let before = len-entries tree in
    let after = len-entries (insert tree n.0 n.1) in
    omega (arith, rest, grown, before, after)

-- The nodes of used entries, from one number on: no path stands twice.
module _ (m : List ℕ) (rules : IsTable (table m)) where
  distinct_first : (a : ℕ) (rest : List Node) → AreDistinct rest
      → ((p : Path) (g : File) → node m a ≡ Some (p, g) → find_path p rest ≡ None)
      → (o : Option Node) → node m a ≡ o → AreDistinct (cons_option o rest)
  distinct_first a rest distinct alone None none = distinct
  distinct_first a rest distinct alone (Some x) some = (alone x.0 x.1 some, distinct)

  nodes_distinct : (a n : ℕ) → AreDistinct (filter_map (node m) (range_with_len a n))
  nodes_distinct a zero = tt
  nodes_distinct a (suc n) =
      distinct_first a (filter_map (node m) (range_with_len (a + 1) n)) (nodes_distinct (a + 1) n)
      (λ p g is. missed_node (node m) (a + 1) n p (λ k h from there.
      let one = node_tells m a p g is in
      let other = node_tells m k p h there in
      let same = one_path (table m) rules k a other.0 one.0 (sym other.1 ∙ one.1) in
      let z : ⊥ = omega (arith, same, from) in z))
      (node m a) refl

-- 1 where it is so
abbrev one_if : Bool → ℕ
one_if b = cond b 1 0

-- the blocks of an extent, if there is one
abbrev pub blocks_in : Option Extent → ℕ
blocks_in o = option_map_or (λ x. x.blocks) o 0

-- what a file costs, and what blocks its entry names, by its kind
cost_tested : (is_df is_bytes is_linear : Bool) (name : Option (List ℕ)) (short : Option ℕ) (bytes : List ℕ)
    (record_length capacity : ℕ) (ls cs : List (List ℕ)) (size : ℕ)
    → (is_df ≡ false → is_bytes ≡ true → length bytes ≡ size)
    → (is_df ≡ false → is_bytes ≡ false → capacity * record_length ≡ size)
    → cost_of (if is_df then dedicated name else elementary short
    (if is_bytes then transparent bytes else if is_linear then linear record_length capacity ls
    else cyclic record_length capacity cs))
    ≡ (if is_df then 0 else blocks_for size)
cost_tested true is_bytes is_linear name short bytes record_length capacity ls cs size whole slots = refl
cost_tested false true is_linear name short bytes record_length capacity ls cs size whole slots =
    ap blocks_for (whole refl refl)
cost_tested false false true name short bytes record_length capacity ls cs size whole slots =
    ap blocks_for (slots refl refl)
cost_tested false false false name short bytes record_length capacity ls cs size whole slots =
    ap blocks_for (slots refl refl)

blocks_tested : (is_ef : Bool) (x : Extent)
    → blocks_in (if is_ef then Some x else None) ≡ (if is_ef then x.blocks else 0)
blocks_tested true x = refl
blocks_tested false x = refl

cost_by_kind : (x : Entry) (bytes : List ℕ) → HasBody x → x.kind ≢ 0 → x.kind ≤ 4
    → (2 ≤ x.kind → x.size ≤ length bytes)
    → cost (file_of x bytes) ≡ (if x.kind == 1 then 0 else blocks_for x.size)
unfolding file_of
cost_by_kind x bytes body some small room =
    cost_tested (x.kind == 1) (x.kind == 2) (x.kind == 3) _ _ (take x.size bytes) x.record_length (entry_capacity x)
    (linear_records x bytes) (cyclic_records x bytes) x.size
    (λ other is. elim (eqb_tells x.kind 2) [
      | inl same ↦
          let l = length-take x.size bytes in
          let enough = room (let k = same.1 in omega (arith, k)) in
          omega (arith, l, enough)
      | inr differ ↦ absurd (true≢false (sym is ∙ differ.0))
    ])
    (λ other differ. elim (eqb_tells x.kind 1) [
      | inl same ↦ absurd (true≢false (sym same.0 ∙ other))
      | inr not_df ↦ elim (eqb_tells x.kind 2) [
        | inl same ↦ absurd (true≢false (sym same.0 ∙ differ))
        | inr not_bytes ↦
            let a = not_df.1 in
            let b = not_bytes.1 in
            let records = body.records (elim (eqb_tells x.kind 3) [
              | inl third ↦ inl third.1
              | inr not_third ↦ inr (let c = not_third.1 in omega (arith, a, b, c, some, small))
            ]) in
            sym records.multiple
      ]
    ])

blocks_by_kind : (x : Entry) → x.kind ≢ 0 → blocks_in (extent_of x) ≡ (if x.kind == 1 then 0 else blocks_for x.size)
unfolding extent_of
blocks_by_kind x some =
    blocks_tested (nat_le 2 x.kind) _ ∙ elim (eqb_tells x.kind 1) [
      | inl same ↦ elim (leb_tells 2 x.kind) [
        | inl le ↦ absurd (let a = same.1 in let b = le.1 in omega (arith, a, b))
        | inr gt ↦ ap (λ (b : Bool). if b then blocks_for x.size else 0) gt.0
            ∙ sym (ap (λ (c : Bool). if c then 0 else blocks_for x.size) same.0)
      ]
      | inr other ↦ elim (leb_tells 2 x.kind) [
        | inl le ↦ ap (λ (b : Bool). if b then blocks_for x.size else 0) le.0
            ∙ sym (ap (λ (c : Bool). if c then 0 else blocks_for x.size) other.0)
        | inr gt ↦ absurd (let a = other.1 in let b = gt.1 in omega (arith, a, b, some))
      ]
    ]

-- the blocks of extents, laid end to end, are as many as they say together
pub laid_blocks : (m : List ℕ) (es : List Extent) → All (IsExtent m) es
    → sum_by (λ x. x.blocks) es ≡ length (laid_out m es)
unfolding laid_out
laid_blocks m [] each = refl
laid_blocks m (x ∷ es) each =
    let first : IsExtent m x = each 0 x (omega arith) in
    let rest = laid_blocks m es (λ i d lt. each (suc i) d (omega (arith, lt))) in
    let one = sum-cons (λ (e : Extent). e.blocks) x es in
    let long : length (laid_out m (x ∷ es)) ≡ length (blocks_of m x) + length (laid_out m es) =
    length-append (blocks_of m x) (laid_out m es) in
    omega (arith, one, rest, long, first.blocks)

-- a free entry names no blocks, nor does that of a dedicated file
pub extent_of-none : (x : Entry) → x.kind < 2 → extent_of x ≡ None
unfolding extent_of
extent_of-none x low = elim (leb_tells 2 x.kind) [
  | inl le ↦ absurd (let b = le.1 in omega (arith, b, low))
  | inr gt ↦ ap (λ (b : Bool). if b then Some (extent_told x) else None) gt.0
]

pub extent_of-some : (x : Entry) → 2 ≤ x.kind → extent_of x ≡ Some (extent_told x)
unfolding extent_of
extent_of-some x high = elim (leb_tells 2 x.kind) [
  | inl le ↦ ap (λ (b : Bool). if b then Some (extent_told x) else None) le.0
  | inr gt ↦ absurd (let b = gt.1 in omega (arith, b, high))
]

-- what holds of each extent of a table holds of the one that an entry names
all_first : (P : Extent → Type 0) (o : Option Extent) (rest : List Extent) → All P (cons_option o rest)
    → ((x : Extent) → o ≡ Some x → P x) × All P rest
all_first P None rest all = ((λ x is. absurd (true≢false (sym (ap (λ (q : Option Extent). is_some q) is)))), all)
all_first P (Some y) rest all = (
  (λ x is. subst P (ap (λ (q : Option Extent). unwrap_or q y) is) (all 0 y (omega arith))),
  λ i d lt. all (suc i) d (omega (arith, lt)),
)

pub all_extents : (P : Extent → Type 0) (t : List Entry) → All P (extents t) → (e : ℕ) → e < length t
    → (x : Extent) → extent_of (entry_in t e) ≡ Some x → P x
all_extents P [] all e lt x is = absurd (omega arith)
all_extents P (y ∷ t) all zero lt x is = (all_first P (extent_of y) (extents t) all).0 x is
all_extents P (y ∷ t) all (suc e) lt x is =
    let below : e < length t = omega arith in
    all_extents P t (all_first P (extent_of y) (extents t) all).1 e below x is

-- The rules, in a memory of the right length.
module _ (m : List ℕ) (sized : IsMemory m) (stands : TreeStands m) where
  -- the blocks that a used entry of an elementary file names are an extent
  pub entry_extent : (e : ℕ) → e < 64 → 2 ≤ (entry_in (table m) e).kind
      → IsExtent m (extent_told (entry_in (table m) e))
  entry_extent e below high =
      let is_extent : Extent → Type 0 = λ x. IsExtent m x in
      all_extents is_extent (table m) stands.blocks.each e (let l = length-table m in omega (arith, l, below))
      (extent_told (entry_in (table m) e)) (extent_of-some (entry_in (table m) e) high)

  -- and they have room for the size
  pub room_for_size : (e : ℕ) → e < 64 → 2 ≤ (entry_in (table m) e).kind
      → (entry_in (table m) e).size ≤ length (content m (entry_in (table m) e))
  unfolding content
  room_for_size e below high =
      let x = entry_in (table m) e in
      let extent = entry_extent e below high in
      let long = length-bytes_of m (blocks_of m (extent_told x)) sized
      (leads_blocks m (extent_told x).chain.first 0 (blocks_of m (extent_told x)) extent.leads) in
      let blocks = extent.blocks in
      let is : length (content m x) ≡ length (bytes_of m (blocks_of m (extent_told x))) =
      ap (λ (o : Option Extent). length (option_map_or (λ k. bytes_of m (blocks_of m k)) o []))
      (extent_of-some x high) in
      omega (arith, long, blocks, is)

  -- what a node costs is what its entry names
  node_cost : (e : ℕ) → e < 64
      → option_map_or (λ n. cost n.1) (node m e) 0 ≡ blocks_in (extent_of (entry_in (table m) e))
  node_cost e below = elim (eqb_tells (entry_in (table m) e).kind 0) [
    | inl same ↦
        let low : (entry_in (table m) e).kind < 2 = (let z = same.1 in omega (arith, z)) in
        ap (λ (o : Option Node). option_map_or (λ n. cost n.1) o 0) (node-free m e same.1)
        ∙ sym (ap blocks_in (extent_of-none (entry_in (table m) e) low))
    | inr other ↦
        let x = entry_in (table m) e in
        let within : e < length (table m) = (let l = length-table m in omega (arith, l, below)) in
        let file = (stands.entries.each e free_entry within).used other.1 in
        ap (λ (o : Option Node). option_map_or (λ n. cost n.1) o 0) (node-used m e other.1)
        ∙ cost_by_kind x (content m x) file.body other.1 file.kind (room_for_size e below)
        ∙ sym (blocks_by_kind x other.1)
  ]

  abbrev page_entry : ℕ → Entry
  page_entry page = entry_of (page_words m page)

  entry_is : (e : ℕ) → e < 64 → page_entry (e + 1) ≡ entry_in (table m) e
  entry_is e below = let place : e + 1 ≡ 1 + e = omega arith in ap page_entry place ∙ sym (entry_in-table m e below)

  costs_from : (a n : ℕ) → a + n ≤ 64 → sum_by (λ n. cost n.1) (filter_map (node m) (range_with_len a n))
      ≡ sum_by (λ x. x.blocks) (filter_map extent_of (map page_entry (range_with_len (a + 1) n)))
  costs_from a zero fits = refl
  costs_from a (suc n) fits =
      let below : a < 64 = omega (arith, fits) in
      let one = node_cost a below in
      let same = ap (λ (x : Entry). blocks_in (extent_of x)) (entry_is a below) in
      let rest = costs_from (a + 1) n (omega (arith, fits)) in
      let left = sum-option (λ (k : Node). cost k.1) (node m a) (filter_map (node m) (range_with_len (a + 1) n)) in
      let right = sum-option (λ (x : Extent). x.blocks) (extent_of (page_entry (a + 1)))
      (filter_map extent_of (map page_entry (range_with_len (a + 1 + 1) n))) in
      omega (arith, one, same, rest, left, right)

  length-option : (o : Option Node) (ns : List Node) → length (cons_option o ns) ≡ one_if (is_some o) + length ns
  length-option None ns = let z : length ns ≡ 0 + length ns = omega arith in z
  length-option (Some n) ns = let z : suc (length ns) ≡ 1 + length ns = omega arith in z

  -- an entry has a node, or it is free
  node_or_free : (e : ℕ) → one_if (is_some (node m e)) + one_if ((entry_in (table m) e).kind == 0) ≡ 1
  node_or_free e = elim (eqb_tells (entry_in (table m) e).kind 0) [
    | inl same ↦ ap₂ (λ (o : Option Node) (b : Bool). one_if (is_some o) + one_if b) (node-free m e same.1) same.0
    | inr other ↦ ap₂ (λ (o : Option Node) (b : Bool). one_if (is_some o) + one_if b) (node-used m e other.1) other.0
  ]

  nodes_from : (a n : ℕ) → a + n ≤ 64 → length (filter_map (node m) (range_with_len a n))
      + count_by (λ (x : Entry). x.kind == 0) (map page_entry (range_with_len (a + 1) n)) ≡ n
  nodes_from a zero fits = refl
  nodes_from a (suc n) fits =
      let below : a < 64 = omega (arith, fits) in
      let one = node_or_free a in
      let same : one_if ((page_entry (a + 1)).kind == 0) ≡ one_if ((entry_in (table m) a).kind == 0) =
      ap (λ (x : Entry). one_if (x.kind == 0)) (entry_is a below) in
      let rest = nodes_from (a + 1) n (omega (arith, fits)) in
      let left = length-option (node m a) (filter_map (node m) (range_with_len (a + 1) n)) in
      let right = sum-cons (λ (x : Entry). cond (x.kind == 0) 1 0) (page_entry (a + 1))
      (map page_entry (range_with_len (a + 1 + 1) n)) in
      omega (arith, one, same, rest, left, right)

  -- what the files cost are the blocks that their entries name, and so no more than there are
  costs_laid : sum_by (λ (n : Node). cost n.1) (entries (tree_of m)) ≡ length (laid_out m (extents (table m)))
  unfolding tree_of table
  costs_laid =
      sum-nodes (λ (n : Node). cost n.1) (filter_map (node m) (range_with_len 0 64))
      (nodes_distinct m stands.entries 0 64)
      ∙ costs_from 0 64 (omega arith) ∙ laid_blocks m (extents (table m)) stands.blocks.each

  pub costs_fit : sum_by (λ (n : Node). cost n.1) (entries (tree_of m)) ≤ block_count m
  costs_fit =
      let costs = costs_laid in
      let whole = stands.blocks.whole in
      let parts = length-append (free_chain m) (laid_out m (extents (table m))) in
      omega (arith, costs, whole, parts)

  -- Free are the blocks of the free chain, and the free entries.
  pub space_counted : free_space (block_count m) (tree_of m) ≡ record {
    blocks = length (free_chain m);
    entries =
        free_entries (table m);
  }
  unfolding tree_of table
  space_counted =
      let ns = filter_map (node m) (range_with_len 0 64) in
      let distinct = nodes_distinct m stands.entries 0 64 in
      let costs = costs_laid in
      let blocks : block_count m - sum_by (λ (n : Node). cost n.1) (entries (tree_of m)) ≡ length (free_chain m) =
      (let whole = stands.blocks.whole in
      let parts = length-append (free_chain m) (laid_out m (extents (table m))) in
      omega (arith, costs, whole, parts)) in
      let some : 64 - length (entries (tree_of m)) ≡ free_entries (table m) =
      (let all = nodes_from 0 64 (omega arith) in
      let files = length-nodes ns distinct in
      omega (arith, all, files)) in
      λ i. record { blocks = blocks i; entries = some i }
