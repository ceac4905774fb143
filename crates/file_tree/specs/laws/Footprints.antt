-- Which words the tree depends on: those of the entries' pages, those of blocks, and the header's of the free chain.
use Rattle.file_tree.specs.laws.Formats.{laid_as}
use Rattle.file_tree.specs.Formats.{block_count}
use Rattle.nvm_board.specs.Facts.{IsMemory}
use Rattle.std.specs.Prelude.{◌≡◌, ◌==◌, ◌<◌, ◌≤◌, ◌+◌, ℕ, zero, suc, if◌then◌else◌, List, [], length, Option, None}
use Rattle.std.specs.Prelude.{Some, All}
use Rattle.std.specs.List.{range_with_len, filter_map, cons_option}
use Rattle.std.specs.Option.{option_map_or}
use Rattle.std.specs.FinMap.{from_entries}
use Rattle.std.specs.Ordering.{nat_cmp}
use Rattle.std.specs.Cmp.Lexicographic.{slice_cmp}
use Rattle.std.proofs.Common.{refl, sym, ◌∙◌, ap, ap₂, subst, arith, ⊎_elim}
use Rattle.std.proofs.lemmas.Bool.{cases_lt}
use Rattle.block_chain.specs.declared.chain.Extent.{Extent}
use Rattle.block_chain.specs.Chains.{bytes_of, free_chain}
use Rattle.block_chain.specs.Layout.{AreLaid, SameBytes, blocks_of}
use Rattle.block_chain.specs.laws.Footprints.{page_words_same, laid_elsewhere}
use Rattle.file_tree.specs.declared.entry.Entry.{Entry}
use Rattle.file_tree.specs.Entries.{extent_told, file_of}
use Rattle.file_tree.specs.Table.{table, entry_in, path_of, extents, IsTable}
use Rattle.file_tree.specs.Trees.{content, node, tree_of, TreeStands}
use Rattle.file_tree.specs.TreeChanges.{KeepsTree}
use Rattle.file_tree.specs.laws.Tables.{length-table, table-same}
use Rattle.file_tree.specs.laws.Nodes.{Node}
use Rattle.file_tree.specs.laws.Costs.{extent_of-none, extent_of-some, all_extents}

-- the bytes of an entry's file depend on those of its extent
pub content_same : (m n : List ℕ) (t : List Entry) → length t ≡ 64 → All (SameBytes m n) (extents t) → (e : ℕ)
    → e < 64
    → content n (entry_in t e) ≡ content m (entry_in t e)
unfolding content
content_same m n t size same e below = ⊎_elim
    (λ (low : (entry_in t e).kind < 2).
    ap (λ (o : Option Extent). option_map_or (λ x. bytes_of n (blocks_of n x)) o [])
    (extent_of-none (entry_in t e) low)
    ∙ sym (ap (λ (o : Option Extent). option_map_or (λ x. bytes_of m (blocks_of m x)) o [])
    (extent_of-none (entry_in t e) low)))
    (λ (high : 2 ≤ (entry_in t e).kind).
    let x = extent_told (entry_in t e) in
    let some = extent_of-some (entry_in t e) high in
    let keeps : Extent → Type 0 = λ y. SameBytes m n y in
    let bytes = all_extents keeps t same e (omega (arith, size, below)) x some in
    ap (λ (o : Option Extent). option_map_or (λ y. bytes_of n (blocks_of n y)) o []) some
    ∙ ap (bytes_of n) bytes.0 ∙ bytes.1
    ∙ sym (ap (λ (o : Option Extent). option_map_or (λ y. bytes_of m (blocks_of m y)) o []) some))
    (cases_lt (entry_in t e).kind 2)

-- a node depends on the table, and on the bytes of its entry's file
pub node_same : (m n : List ℕ) (e : ℕ) → table n ≡ table m
    → content n (entry_in (table m) e) ≡ content m (entry_in (table m) e) → node n e ≡ node m e
unfolding node
node_same m n e entries same =
    let bytes : content n (entry_in (table n) e) ≡ content m (entry_in (table m) e) =
    ap (λ (t : List Entry). content n (entry_in t e)) entries ∙ same in
    λ i. if (entry_in (entries i) e).kind == 0 then None
    else Some (path_of (entries i) e, file_of (entry_in (entries i) e) (bytes i))

nodes_same : (m n : List ℕ) (a k : ℕ) → ((e : ℕ) → a ≤ e → e < a + k → node n e ≡ node m e)
    → filter_map (node n) (range_with_len a k) ≡ filter_map (node m) (range_with_len a k)
nodes_same m n a zero same = refl
nodes_same m n a (suc k) same = ap₂ (λ (o : Option Node) (ns : List Node). cons_option o ns)
    (same a (omega arith) (omega arith))
    (nodes_same m n (a + 1) k (λ e from below. same e (omega (arith, from)) (omega (arith, below))))

-- The tree depends on the table, and on the bytes of each file.
pub tree_same : (m n : List ℕ) → table n ≡ table m
    → ((e : ℕ) → e < 64 → content n (entry_in (table m) e) ≡ content m (entry_in (table m) e)) → tree_of n ≡ tree_of m
unfolding tree_of
tree_same m n entries same = ap (from_entries {R = slice_cmp nat_cmp})
    (nodes_same m n 0 64 (λ e from below. node_same m n e entries (same e (omega (arith, below)))))

-- The table depends on words of the entries' pages.
pub table_kept : (m after : List ℕ) → IsMemory m → KeepsTree m after → table after ≡ table m
table_kept m after sized keeps = table-same m after (λ page from below.
    page_words_same m after page (omega (arith, sized, below)) keeps.blocks.size
    (λ place small. keeps.entries page place from below small))

-- Words change elsewhere: table, tree and free chain stay, and what stood for a tree does so still.
pub tree_kept : (m after : List ℕ) → IsMemory m → KeepsTree m after → TreeStands m
    → TreeStands after × (table after ≡ table m) × (tree_of after ≡ tree_of m) × (free_chain after ≡ free_chain m)
tree_kept m after sized keeps stands =
    let entries = table_kept m after sized keeps in
    let laid = laid_elsewhere (block_count m) m after (extents (table m)) sized stands.blocks keeps.blocks in
    let are_laid : List Entry → Type 0 = λ t. AreLaid (block_count m) after (extents t) in
    let are_table : List Entry → Type 0 = λ t. IsTable t in (
      record {
        entries = subst are_table (sym entries) stands.entries;
        blocks = laid_as m after _ keeps.format (subst are_laid (sym entries) laid.0);
      },
      entries,
      tree_same m after entries (content_same m after (table m) (length-table m) laid.2),
      laid.1,
    )
