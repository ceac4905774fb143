use Rattle.std.specs.Prelude.{◌≡◌, ◌+◌, ◌-◌, ◌<◌, ◌≤◌, ℕ, List, Option, Some, None, MatchOption}
use Rattle.std.proofs.Common.{sym, ◌∙◌, ap, arith}
use Rattle.nvm_board.specs.Facts.{pages_of}
use Rattle.undo_journal.specs.Memory.{committed}
use Rattle.block_chain.specs.declared.layout.TheConstants.{FIRST_BLOCK_PAGE}
use Rattle.file_tree.specs.Formats.{end_page, block_count}
use Rattle.file_tree.specs.laws.Formats.{count_is}
use Rattle.tree_check.proofs.format.read_block_count.Goals as goal

-- what is said of two numbers is said of the memory's
told : (m : List ℕ) (end pages : ℕ) (o : Option ℕ) → end ≡ end_page m → pages ≡ pages_of m
    → MatchOption o (pages < end) (λ n. (n ≡ end - FIRST_BLOCK_PAGE) × (FIRST_BLOCK_PAGE + n ≤ pages))
    → MatchOption o (pages_of m < end_page m) (λ n. (n ≡ block_count m) × (FIRST_BLOCK_PAGE + n ≤ pages_of m))
told m end pages None end_is pages_are past = omega (arith, end_is, pages_are, past)
told m end pages (Some n) end_is pages_are found = (
  found.0 ∙ ap (λ (k : ℕ). k - FIRST_BLOCK_PAGE) end_is ∙ sym (count_is m),
  (let fits = found.1 in omega (arith, fits, pages_are)),
)

pub returns-clause-count : goal.returns-clause-count
returns-clause-count g c =
    told (committed c.args.store.now) _ _ _ c.in_ok-end.ensures.end
    (c.pages.ensures.committed ∙ ap pages_of c.read_end_page.ensures.store.only.keeps.committed_words)
    c.count_before.ensures
