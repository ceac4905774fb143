-- Laws of the way from format 1 to format 2: the tree stays, whole or cut.
use Rattle.std.specs.Prelude.{◌≡◌, ◌≢◌, ◌<◌, ◌≤◌, ◌+◌, ◌-◌, ℕ, suc, Bool, if◌then◌else◌, List, length, slice_index}
use Rattle.std.proofs.Common.{sym, ◌∙◌, ap, subst, arith, inl, inr}
use Rattle.std.proofs.lemmas.Bool.Decides.{eqb_tells}
use Rattle.nvm_board.specs.Facts.{IsMemory, pages_of}
use Rattle.nvm_board.specs.declared.board.TheConstants.{PAGE_WORDS}
use Rattle.nvm_board.specs.laws.Sizes.{least_words}
use Rattle.block_chain.specs.BlockWords.{word}
use Rattle.block_chain.specs.ChainChanges.{LinksAlone, AreLinked}
use Rattle.block_chain.specs.Layout.{IsOf, AreLaid}
use Rattle.block_chain.specs.declared.layout.TheConstants.{HEADER_PAGE, FREE_HEAD_WORD, FREE_HEAD, FIRST_BLOCK_PAGE}
use Rattle.block_chain.specs.laws.Footprints.{laid_same, page_words_same}
use Rattle.block_chain.specs.laws.Lengthening.{longer_laid, bytes_stay}
use Rattle.file_tree.specs.declared.entry.Entry.{Entry}
use Rattle.file_tree.specs.declared.layout.TheConstants.{MARK, MARK_WORD, PAGES_WORD, OLD_END_PAGE}
use Rattle.file_tree.specs.Table.{table, extents, IsTable}
use Rattle.file_tree.specs.Formats.{block_count}
use Rattle.file_tree.specs.Trees.{tree_of, TreeStands}
use Rattle.file_tree.specs.TreeChanges.{KeepsTree}
use Rattle.file_tree.specs.MigrationParts.{Renames}
use Rattle.file_tree.specs.laws.Formats.{count_is, end_new, end_old}
use Rattle.file_tree.specs.laws.Footprints.{content_same, tree_same}
use Rattle.file_tree.specs.laws.Tables.{length-table, table-same}

-- In format 1 there are 896 blocks.
pub old_count : (m : List ℕ) → word m HEADER_PAGE MARK_WORD ≢ MARK → block_count m ≡ 896
old_count m old = let count = count_is m in let end = end_old m old in omega (arith, count, end)

-- In format 1 links of pages from page 1,024 on play no part: the tree stays, whichever of them are written.
pub links_keep : (end : ℕ) (m after : List ℕ) → word m HEADER_PAGE MARK_WORD ≢ MARK
    → LinksAlone OLD_END_PAGE end m after → KeepsTree m after
links_keep end m after old only = record {
  entries = λ page place from below small. only.others page place small (inr (inl (omega (arith, below))));
  blocks = record {
    size = only.size;
    words = λ page place of small. only.others page place small
        (inr (inl (let count = old_count m old in let below = of.1 in omega (arith, count, below))));
    head = only.others HEADER_PAGE FREE_HEAD_WORD (omega arith) (inl (omega arith));
  };
  format = record {
    mark = only.others HEADER_PAGE MARK_WORD (omega arith) (inr (inl (omega arith)));
    pages = only.others HEADER_PAGE PAGES_WORD (omega arith) (inr (inl (omega arith)));
  };
}

-- The pages behind the old blocks are linked, and the header is renamed:
-- the memory stands for the same tree, in format 2.
module _ (end : ℕ) (m mid after : List ℕ) (sized : IsMemory m) (stands : TreeStands m)
    (old : word m HEADER_PAGE MARK_WORD ≢ MARK) (least : OLD_END_PAGE ≤ end) (inside : end ≤ pages_of m)
    (only : LinksAlone OLD_END_PAGE end m mid)
    (linked : AreLinked OLD_END_PAGE end (word m HEADER_PAGE FREE_HEAD_WORD) mid)
    (renames : Renames end mid after) where
  size : length after ≡ length m
  size = renames.size ∙ only.size

  -- each entry is where it was
  pub same-entries : table after ≡ table m
  same-entries = table-same m after (λ page from below.
      page_words_same m after page (let long = least_words m sized in omega (arith, long, below)) size (λ place small.
      renames.entries page place from below small
      ∙ only.others page place small (inr (inl (omega (arith, below))))))

  same-blocks : (page place : ℕ) → IsOf 896 page → place < PAGE_WORDS → word after page place ≡ word m page place
  same-blocks page place of small =
      renames.blocks page place of.0 small
      ∙ only.others page place small (inr (inl (let below = of.1 in omega (arith, below))))

  old-laid : AreLaid 896 m (extents (table m))
  old-laid = let family : ℕ → Type 0 = λ n. AreLaid n m (extents (table m)) in
      subst family (old_count m old) stands.blocks

  old-head : word mid HEADER_PAGE FREE_HEAD_WORD ≡ word m HEADER_PAGE FREE_HEAD_WORD
  old-head = only.others HEADER_PAGE FREE_HEAD_WORD (omega arith) (inl (omega arith))

  new-count : block_count after ≡ end - FIRST_BLOCK_PAGE
  new-count = count_is after ∙ ap (λ (p : ℕ). p - FIRST_BLOCK_PAGE) (end_new after renames.mark ∙ renames.pages)

  new-laid : AreLaid (end - FIRST_BLOCK_PAGE) after (extents (table m))
  new-laid = elim (eqb_tells end OLD_END_PAGE) [
    | inl same ↦
        let head : slice_index after FREE_HEAD ≡ slice_index m FREE_HEAD =
        renames.head ∙ ap (λ (b : Bool). if b then word mid HEADER_PAGE FREE_HEAD_WORD else OLD_END_PAGE) same.0
        ∙ old-head in
        let count : 896 ≡ end - FIRST_BLOCK_PAGE = let is = same.1 in omega (arith, is) in
        let family : ℕ → Type 0 = λ n. AreLaid n after (extents (table m)) in
        subst family count (laid_same 896 m after (extents (table m)) old-laid size
        (λ q of. same-blocks q 0 of (omega arith)) head).0
    | inr other ↦
        let differs = other.1 in
        let k : ℕ = end - OLD_END_PAGE - 1 in
        let all : FIRST_BLOCK_PAGE + 896 + suc k ≡ end = omega (arith, least, differs) in
        let count : 896 + suc k ≡ end - FIRST_BLOCK_PAGE = omega (arith, all) in
        let head : slice_index after FREE_HEAD ≡ FIRST_BLOCK_PAGE + 896 =
        renames.head ∙ ap (λ (b : Bool). if b then word mid HEADER_PAGE FREE_HEAD_WORD else OLD_END_PAGE) other.0 in
        let linked-after : AreLinked (FIRST_BLOCK_PAGE + 896) (FIRST_BLOCK_PAGE + 896 + suc k)
        (slice_index m FREE_HEAD) after =
        let of_end : ℕ → Type 0 = λ e. AreLinked OLD_END_PAGE e (word m HEADER_PAGE FREE_HEAD_WORD) mid in
        let linked_mid = subst of_end (sym all) linked in
        λ q from below. renames.blocks q 0 (omega (arith, from)) (omega arith) ∙ linked_mid q from below in
        let family : ℕ → Type 0 = λ n. AreLaid n after (extents (table m)) in
        subst family count (longer_laid 896 k m after (extents (table m)) old-laid size sized
        (omega (arith, all, inside)) (λ q below from. same-blocks q 0 (from, below) (omega arith)) head linked-after).0
  ]

  pub migrated_tree : TreeStands after × (tree_of after ≡ tree_of m)
  migrated_tree =
      let bytes = bytes_stay 896 m after (extents (table m)) sized old-laid size same-blocks in
      let are_laid : List Entry → Type 0 = λ t. AreLaid (block_count after) after (extents t) in
      let family : ℕ → Type 0 = λ n. AreLaid n after (extents (table m)) in
      let laid : AreLaid (block_count after) after (extents (table m)) = subst family (sym new-count) new-laid in (
        record {
          entries = subst IsTable (sym same-entries) stands.entries;
          blocks = subst are_laid (sym same-entries) laid;
        },
        tree_same m after same-entries (content_same m after (table m) (length-table m) bytes),
      )
