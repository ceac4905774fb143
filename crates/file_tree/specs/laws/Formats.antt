-- Laws of the formats.
use Rattle.std.specs.Prelude.{◌≡◌, ◌≢◌, ◌==◌, ◌-◌, ℕ, Bool, if◌then◌else◌, List}
use Rattle.std.proofs.Common.{ap, subst, sym, ◌∙◌, refl, inl, inr}
use Rattle.block_chain.specs.declared.chain.Extent.{Extent}
use Rattle.block_chain.specs.declared.layout.TheConstants.{FIRST_BLOCK_PAGE}
use Rattle.block_chain.specs.Layout.{AreLaid}
use Rattle.block_chain.specs.BlockWords.{word}
use Rattle.block_chain.specs.declared.layout.TheConstants.{HEADER_PAGE}
use Rattle.file_tree.specs.declared.layout.TheConstants.{MARK, MARK_WORD, PAGES_WORD, OLD_END_PAGE}
use Rattle.std.proofs.lemmas.Bool.Decides.{eqb_tells}
use Rattle.file_tree.specs.Formats.{is_format_2, end_page, block_count, SameFormat}

-- the same header, the same blocks
pub count_same : (m after : List ℕ) → SameFormat m after → block_count after ≡ block_count m
unfolding block_count end_page is_format_2
count_same m after same = λ i. (if same.mark i == MARK then same.pages i else OLD_END_PAGE) - FIRST_BLOCK_PAGE

-- what is laid out by the count of blocks before is so by the count after
pub laid_as : (m after : List ℕ) (es : List Extent) → SameFormat m after → AreLaid (block_count m) after es
    → AreLaid (block_count after) after es
laid_as m after es same laid =
    let family : ℕ → Type 0 = λ n. AreLaid n after es in subst family (sym (count_same m after same)) laid

-- where the blocks end, by the mark
pub end_new : (m : List ℕ) → word m HEADER_PAGE MARK_WORD ≡ MARK → end_page m ≡ word m HEADER_PAGE PAGES_WORD
unfolding end_page is_format_2
end_new m is = elim (eqb_tells (word m HEADER_PAGE MARK_WORD) MARK) [
  | inl same ↦ ap (λ (b : Bool). if b then word m HEADER_PAGE PAGES_WORD else OLD_END_PAGE) same.0
  | inr other ↦ absurd (other.1 is)
]

pub end_old : (m : List ℕ) → word m HEADER_PAGE MARK_WORD ≢ MARK → end_page m ≡ OLD_END_PAGE
unfolding end_page is_format_2
end_old m other_mark = elim (eqb_tells (word m HEADER_PAGE MARK_WORD) MARK) [
  | inl same ↦ absurd (other_mark same.1)
  | inr other ↦ ap (λ (b : Bool). if b then word m HEADER_PAGE PAGES_WORD else OLD_END_PAGE) other.0
]

-- blocks that are counted, by the page where they end
pub count_is : (m : List ℕ) → block_count m ≡ end_page m - FIRST_BLOCK_PAGE
unfolding block_count
count_is m = refl

-- so many blocks there are by the mark
pub count_new : (m : List ℕ) → word m HEADER_PAGE MARK_WORD ≡ MARK
    → block_count m ≡ word m HEADER_PAGE PAGES_WORD - FIRST_BLOCK_PAGE
count_new m is = count_is m ∙ ap (λ (end : ℕ). end - FIRST_BLOCK_PAGE) (end_new m is)

pub count_old : (m : List ℕ) → word m HEADER_PAGE MARK_WORD ≢ MARK → block_count m ≡ OLD_END_PAGE - FIRST_BLOCK_PAGE
count_old m other = count_is m ∙ ap (λ (end : ℕ). end - FIRST_BLOCK_PAGE) (end_old m other)
