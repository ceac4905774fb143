-- What writing bytes of blocks makes of the tree: bytes of one file, and of free blocks.
use Rattle.block_chain.specs.declared.layout.TheConstants.{FREE_HEAD_WORD, HEADER_PAGE, FIRST_BLOCK_PAGE}
use Rattle.file_tree.specs.declared.layout.TheConstants.{MARK_WORD, PAGES_WORD}
use Rattle.file_tree.specs.laws.Formats.{laid_as}
use Rattle.file_tree.specs.Formats.{block_count, SameFormat}
use Rattle.nvm_board.specs.Facts.{IsMemory}
use Rattle.std.specs.Prelude.{◌≡◌, ◌≢◌, ◌<◌, ◌≤◌, ◌==◌, ℕ, if◌then◌else◌, List, take}
use Rattle.std.specs.Prelude.{None, Some, unwrap_or}
use Rattle.std.proofs.Common.{refl, sym, ◌∙◌, ap, ap₂, subst, arith, inl, inr, ⊎_elim}
use Rattle.std.proofs.lemmas.Bool.{cases_lt}
use Rattle.std.specs.FinMap.{insert}
use Rattle.nvm_board.specs.declared.board.TheConstants.{PAGE_WORDS}
use Rattle.card_model.specs.LifeCycle.{life_cycle_at}
use Rattle.card_model.specs.declared.life_cycle.LifeCycle.TheVariants.{Activated}
use Rattle.block_chain.specs.declared.chain.Extent.{Extent}
use Rattle.block_chain.specs.Counts.{count, IsNotIn}
use Rattle.block_chain.specs.BlockWords.{word}
use Rattle.block_chain.specs.Chains.{free_chain, bytes_of}
use Rattle.block_chain.specs.ChainChanges.{OnlyContent}
use Rattle.card_model.specs.FileTrees.{overwrite, transparent, linear, cyclic, dedicated, elementary, File}
use Rattle.block_chain.specs.Layout.{blocks_of, laid_out, IsExtent, IsOf, AreLaid}
use Rattle.block_chain.specs.laws.Counts.{count-append, count-split}
use Rattle.block_chain.specs.laws.Bytes.{AreBlocks, leads_blocks, blocks_take}
use Rattle.block_chain.specs.laws.Laying.{laid_of}
use Rattle.block_chain.specs.laws.Footprints.{page_words_same, not_among, no_header, laid_kept}
use Rattle.block_chain.specs.laws.Footprints.{extent_kept, extent_bytes}
use Rattle.file_tree.specs.declared.entry.Entry.{Entry}
use Rattle.file_tree.specs.Entries.{file_of, linear_records, cyclic_records, entry_capacity, rule_of, name_of}
use Rattle.file_tree.specs.Entries.{extent_told}
use Rattle.file_tree.specs.Table.{table, entry_in, path_of, extents, IsUsed, IsTable}
use Rattle.file_tree.specs.Trees.{content, tree_of, TreeStands, file_in}
use Rattle.file_tree.specs.TreeChanges.{KeepsRest, SameTree, Rewrites, with_overwritten}
use Rattle.file_tree.specs.laws.Tables.{table-same, length-table}
use Rattle.file_tree.specs.laws.Nodes.{file_at_entry, used_small}
use Rattle.file_tree.specs.laws.Costs.{entry_extent}
use Rattle.file_tree.specs.laws.Contents.{content-none, content-some, count_both, count_named, named-some}
use Rattle.file_tree.specs.laws.Changing.{tree_inserted, tree_stays}

-- the file of a transparent entry
pub file_of-transparent : (x : Entry) (bytes : List ℕ) → x.kind ≡ 2 → file_of x bytes ≡ record {
  life = unwrap_or (life_cycle_at x.life) Activated;
  rule = rule_of x;
  kind = elementary (if x.short == 0 then None else Some x.short) (transparent (take x.size bytes));
}
unfolding file_of
file_of-transparent x bytes is = λ i. record {
  life = unwrap_or (life_cycle_at x.life) Activated;
  rule = rule_of x;
  kind = if is i == 1 then dedicated (if x.name_length == 0 then None else Some (name_of x))
      else elementary (if x.short == 0 then None else Some x.short) (
      if is i == 2 then transparent (take x.size bytes) else
      if is i == 3 then linear x.record_length (entry_capacity x) (linear_records x bytes) else
      cyclic x.record_length (entry_capacity x) (cyclic_records x bytes));
}

-- so where its bytes are overwritten, the file's are
pub file_overwritten : (x : Entry) (before after bytes : List ℕ) (offset : ℕ) → x.kind ≡ 2
    → take x.size after ≡ overwrite (take x.size before) offset bytes
    → file_of x after ≡ with_overwritten (file_of x before) offset bytes
file_overwritten x before after bytes offset is becomes =
    file_of-transparent x after is
    ∙ ap (λ (bs : List ℕ). record {
      life = unwrap_or (life_cycle_at x.life) Activated;
      rule = rule_of x;
      kind = elementary (if x.short == 0 then None else Some x.short) (transparent bs);
    }) becomes
    ∙ sym (ap (λ (file : File). with_overwritten file offset bytes) (file_of-transparent x before is))

-- The header names the same format where only files change.
pub rest_format : (m after : List ℕ) → KeepsRest m after → SameFormat m after
rest_format m after rest = record {
  mark = header MARK_WORD (omega arith) (omega arith);
  pages = header PAGES_WORD (omega arith) (omega arith);
}
  where
    header : (place : ℕ) → place < PAGE_WORDS → place ≢ FREE_HEAD_WORD
        → word after HEADER_PAGE place ≡ word m HEADER_PAGE place
    header place small other = rest.words HEADER_PAGE place small
        (λ entry. let low = entry.0 in let z : ⊥ = omega (arith, low) in z)
        (λ block. let low = block.0 in let z : ⊥ = omega (arith, low) in z) (inr other)

-- Blocks of a card are none of the other pages.
pub none_outside : (n : ℕ) (ps : List ℕ) → ((q : ℕ) → 1 ≤ count q ps → IsOf n q) → (page : ℕ) → (IsOf n page → ⊥)
    → IsNotIn page ps
none_outside n ps inside page outside = ⊎_elim
    (λ (some : 0 < count page ps). absurd (outside (inside page (omega (arith, some)))))
    (λ (none : count page ps ≤ 0). let z : count page ps ≡ 0 = omega (arith, none) in z) (cases_lt 0 (count page ps))

-- The first free blocks are blocks of the card.
pub free_inside : (m : List ℕ) (n : ℕ) → TreeStands m → (q : ℕ) → 1 ≤ count q (take n (free_chain m))
    → IsOf (block_count m) q
free_inside m n stands q some =
    let parts = count-append q (free_chain m) (laid_out m (extents (table m))) in
    let split = count-split q n (free_chain m) in
    laid_of (block_count m) m (extents (table m)) stands.blocks q (omega (arith, parts, split, some))

-- The blocks of a file are blocks of the card.
pub file_inside : (m : List ℕ) (e : ℕ) → TreeStands m → e < 64 → 2 ≤ (entry_in (table m) e).kind → (q : ℕ)
    → 1 ≤ count q (blocks_of m (extent_told (entry_in (table m) e))) → IsOf (block_count m) q
file_inside m e stands e_in high q some =
    let own = ap (count q) (named-some m (entry_in (table m) e) high) in
    let among = count_named m q (table m) e (let long = length-table m in omega (arith, long, e_in)) in
    let parts = count-append q (free_chain m) (laid_out m (extents (table m))) in
    laid_of (block_count m) m (extents (table m)) stands.blocks q (omega (arith, own, among, parts, some))

-- Words of blocks that hold bytes change: entries stay, and so does all that is no block.
module _ (m after ps : List ℕ) (sized : IsMemory m) (blocks : AreBlocks m ps) (only : OnlyContent m ps after) where
  other_page : (page place : ℕ) → place < PAGE_WORDS → page < FIRST_BLOCK_PAGE
      → word after page place ≡ word m page place
  other_page page place small outside = only.others page place small
      (inr (not_among m page (λ block. let low = block.0 in let z : ⊥ = omega (arith, low, outside) in z) ps blocks))

  pub content_table : table after ≡ table m
  content_table = table-same m after (λ page from below.
      page_words_same m after page (omega (arith, sized, below)) only.size
      (λ place small. other_page page place small (omega (arith, below))))

  content_format : SameFormat m after
  content_format = record {
    mark = other_page HEADER_PAGE MARK_WORD (omega arith) (omega arith);
    pages = other_page HEADER_PAGE PAGES_WORD (omega arith) (omega arith);
  }

  pub content_rest : ((q : ℕ) → 1 ≤ count q ps → IsOf (block_count m) q) → KeepsRest m after
  content_rest inside = record {
    size = only.size;
    words = λ page place small entry outside header. only.others page place small
        (inr (none_outside (block_count m) ps inside page outside));
  }

  pub content_stands : TreeStands m → TreeStands after
  content_stands stands = record {
    entries = subst IsTable (sym content_table) stands.entries;
    blocks = laid_as m after _ content_format (
        let family : List Extent → Type 0 = λ es. AreLaid (block_count m) after es in
        subst family (sym (ap extents content_table))
        (laid_kept (block_count m) m after (extents (table m)) ps stands.blocks only (no_header m ps blocks)).0);
  }

  pub content_free : TreeStands m → free_chain after ≡ free_chain m
  content_free stands =
      (laid_kept (block_count m) m after (extents (table m)) ps stands.blocks only (no_header m ps blocks)).1

  -- a file whose blocks are not among these stays
  pub content_file : TreeStands m → (e : ℕ) → IsUsed (table m) e
      → ((q : ℕ) → 1 ≤ count q (blocks_of m (extent_told (entry_in (table m) e))) → 2 ≤ (entry_in (table m) e).kind
      → IsNotIn q ps) → file_in after e ≡ file_in m e
  content_file stands e used apart =
      let x = entry_in (table m) e in
      let same : content after x ≡ content m x = ⊎_elim
      (λ (low : x.kind < 2). content-none after x low ∙ sym (content-none m x low))
      (λ (high : 2 ≤ x.kind).
      let extent : IsExtent m (extent_told x) = entry_extent m sized stands e (used_small m e used) high in
      let kept = extent_bytes m after ps (extent_told x) sized extent only (λ q some. apart q some high) in
      content-some after x high ∙ ap (bytes_of after) kept.0 ∙ kept.1 ∙ sym (content-some m x high))
      (cases_lt x.kind 2) in
      ap₂ (λ (t : List Entry) (bytes : List ℕ). file_of (entry_in t e) bytes) content_table
      (ap (λ (t : List Entry). content after (entry_in t e)) content_table ∙ same)

-- the blocks of two entries are apart
pub entries_apart : (m : List ℕ) → TreeStands m → (e f : ℕ) → e ≢ f → e < 64 → f < 64 → 2 ≤ (entry_in (table m) e).kind
    → 2 ≤ (entry_in (table m) f).kind → (q : ℕ) → 1 ≤ count q (blocks_of m (extent_told (entry_in (table m) f)))
    → IsNotIn q (blocks_of m (extent_told (entry_in (table m) e)))
entries_apart m stands e f other e_in f_in e_high f_high q some =
    let t = table m in
    let long = length-table m in
    let one = ap (count q) (named-some m (entry_in t e) e_high) in
    let two = ap (count q) (named-some m (entry_in t f) f_high) in
    let most = stands.blocks.once q in
    let parts = count-append q (free_chain m) (laid_out m (extents t)) in
    ⊎_elim
    (λ (lt : e < f). let both = count_both m q t e f lt (omega (arith, f_in, long)) in
    omega (arith, one, two, most, parts, both, some)) (λ (from : f ≤ e).
    let lt : f < e = omega (arith, from, other) in
    let both = count_both m q t f e lt (omega (arith, e_in, long)) in omega (arith, one, two, most, parts, both, some))
    (cases_lt e f)

-- The bytes of a transparent file are overwritten: the tree has the file so, and all else stays.
pub rewritten : (m after : List ℕ) (e offset : ℕ) (bytes : List ℕ) → IsMemory m → TreeStands m → IsUsed (table m) e
    → (entry_in (table m) e).kind ≡ 2 → OnlyContent m (blocks_of m (extent_told (entry_in (table m) e))) after
    → take (entry_in (table m) e).size (bytes_of after (blocks_of m (extent_told (entry_in (table m) e))))
    ≡ overwrite (take (entry_in (table m) e).size (bytes_of m (blocks_of m (extent_told (entry_in (table m) e)))))
    offset bytes → Rewrites m e offset bytes after
rewritten m after e offset bytes sized stands used is only becomes =
    let t = table m in
    let x = entry_in t e in
    let p = path_of t e in
    let e_in = used_small m e used in
    let high : 2 ≤ x.kind = omega (arith, is) in
    let extent : IsExtent m (extent_told x) = entry_extent m sized stands e e_in high in
    let ps = blocks_of m (extent_told x) in
    let blocks = leads_blocks m _ 0 ps extent.leads in
    let same = content_table m after ps sized blocks only in
    let stands_after = content_stands m after ps sized blocks only stands in
    let kept : blocks_of after (extent_told x) ≡ ps =
    (extent_kept m after (extent_told x) extent only.size (λ q some. only.others q 0 (omega arith) (inl refl))).1 in
    let held : content m x ≡ bytes_of m ps = content-some m x high in
    let holds : content after x ≡ bytes_of after ps = content-some after x high ∙ ap (bytes_of after) kept in
    let own : file_in after e ≡ with_overwritten (file_in m e) offset bytes =
    ap (λ (u : List Entry). file_of (entry_in u e) (content after (entry_in u e))) same
    ∙ file_overwritten x (content m x) (content after x) bytes offset is
    (ap (take x.size) holds ∙ becomes ∙ ap (λ (bs : List ℕ). overwrite (take x.size bs) offset bytes) (sym held)) in
    let before : (f : ℕ) → IsUsed (table after) f → IsUsed t f = λ f u. subst (λ (s : List Entry). IsUsed s f) same u in
    let now : (f : ℕ) → IsUsed t f → IsUsed (table after) f =
    λ f u. subst (λ (s : List Entry). IsUsed s f) (sym same) u in
    let others : (f : ℕ) → f ≢ e → IsUsed (table after) f
    → IsUsed t f × (file_in after f ≡ file_in m f) = λ f other u. (
      before f u,
      content_file m after ps sized blocks only stands f (before f u) (λ q some f_high.
          entries_apart m stands e f (λ eq. other (sym eq)) e_in (used_small m f (before f u)) high f_high q some),
    ) in
    let inserted = tree_inserted m after stands.entries stands_after.entries e (now e used) others
    (λ f u. (now f u, ap (λ (s : List Entry). path_of s f) same)) in
    record {
      tree = inserted
          ∙ ap (λ (s : List Entry). insert (tree_of m) (path_of s e) (file_in after e)) same
          ∙ ap (insert (tree_of m) p) (own ∙ ap (λ (file : File). with_overwritten file offset bytes)
          (sym (file_at_entry m stands.entries e p used refl)));
      stands = stands_after;
      free = content_free m after ps sized blocks only stands;
      rest = content_rest m after ps sized blocks only (file_inside m e stands e_in high);
      table = same;
    }

-- Bytes of the first free blocks are set: the tree stays.
pub filled : (m after : List ℕ) (n : ℕ) → IsMemory m → TreeStands m → OnlyContent m (take n (free_chain m)) after
    → SameTree m after
filled m after n sized stands only =
    let ps = take n (free_chain m) in
    let blocks : AreBlocks m ps =
    blocks_take m n (free_chain m) (leads_blocks m _ 0 (free_chain m) stands.blocks.free) in
    let same = content_table m after ps sized blocks only in
    record {
      tree = tree_stays m after stands.entries same
          (λ e used. content_file m after ps sized blocks only stands e used (λ q some high.
          let own = ap (count q) (named-some m (entry_in (table m) e) high) in
          let among = count_named m q (table m) e
          (let long = length-table m in let small = used_small m e used in omega (arith, long, small)) in
          let most = stands.blocks.once q in
          let parts = count-append q (free_chain m) (laid_out m (extents (table m))) in
          let split = count-split q n (free_chain m) in
          omega (arith, own, among, most, parts, split, some)));
      stands = content_stands m after ps sized blocks only stands;
      free = content_free m after ps sized blocks only stands;
      rest = content_rest m after ps sized blocks only (free_inside m n stands);
      table = same;
    }
