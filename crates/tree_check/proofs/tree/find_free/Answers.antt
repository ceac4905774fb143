use Rattle.undo_journal.specs.laws.Exits.{none_ok}
use Rattle.std.proofs.Common.{◌≡◌, ℕ, List, Option, Some, None, refl, ◌∙◌, ap, subst}
use Rattle.undo_journal.specs.Memory.{committed}
use Rattle.block_chain.specs.declared.chain.Extent.{Extent}
use Rattle.block_chain.specs.Layout.{TellsFreeBlocks}
use Rattle.file_tree.specs.laws.Telling.{space_told}
use Rattle.undo_journal.specs.laws.Told.{reads_handed, reads_on}
use Rattle.std.specs.Prelude.{◌<◌, MatchOption}
use Rattle.std.proofs.Common.{arith}
use Rattle.nvm_board.specs.Facts.{pages_of}
use Rattle.file_tree.specs.Formats.{end_page, block_count}
use Rattle.file_tree.specs.Trees.{TreeStands}
use Rattle.file_tree.specs.Table.{table}
use Rattle.file_tree.specs.laws.Formats.{count_is}
use Rattle.tree_check.proofs.tree.find_free.Goals as goal

-- what was found of the blocks, where they lie as they should and where not
found_is : (n : ℕ) (now : List ℕ) (es : List Extent) (o answer : Option ℕ) → o ≡ answer → TellsFreeBlocks n now es o
    → TellsFreeBlocks n now es answer
found_is n now es o answer is told = subst (λ (r : Option ℕ). TellsFreeBlocks n now es r) is told

pub returns-in_err-blocks-clause-tree : goal.returns-in_err-blocks-clause-tree
returns-in_err-blocks-clause-tree g c = none_ok _ _ _ c.from_residual-in_err-blocks.ensures.1

pub returns-in_err-count-clause-store : goal.returns-in_err-count-clause-store
returns-in_err-count-clause-store g c =
    reads_handed _ _ _ _ c.from_residual.ensures.1 c.in_err-count.ensures.store

-- blocks that do not all lie in the memory are not laid out
too_many : (m now : List ℕ) (o : Option ℕ) (P : ℕ → Type 0) → now ≡ m → o ≡ None
    → MatchOption o (pages_of now < end_page now) P → TreeStands m → ⊥
too_many m now o P same is told stands =
    let family : Option ℕ → Type 0 = λ r. MatchOption r (pages_of now < end_page now) P in
    let past : pages_of now < end_page now = subst family is told in
    let pages = ap pages_of same in
    let end = ap end_page same in
    let count = count_is m in
    let inside = stands.blocks.inside in
    omega (arith, past, pages, end, count, inside)

pub returns-in_default-clause-tree : goal.returns-in_default-clause-tree
returns-in_default-clause-tree g c =
    too_many (committed c.args.store.now) _ _ _ refl c.in_default.is
    c.in_ok-count.ensures.count

pub returns-in_err-blocks-clause-store : goal.returns-in_err-blocks-clause-store
returns-in_err-blocks-clause-store g c =
    reads_handed _ _ _ _ c.from_residual-in_err-blocks.ensures.1
    (reads_on _ _ _ _ c.read_block_count.ensures.store.only c.in_err-blocks.ensures.store)

-- so many blocks were counted
counted : (m now : List ℕ) (o : Option ℕ) (n : ℕ) (P : Type 0) (Q : ℕ → Type 0) → now ≡ m → o ≡ Some n
    → MatchOption o P (λ k. (k ≡ block_count now) × Q k) → n ≡ block_count m
counted m now o n P Q same is told =
    let family : Option ℕ → Type 0 = λ r. MatchOption r P (λ k. (k ≡ block_count now) × Q k) in
    (subst family is told).0 ∙ ap block_count same

pub returns-clause-tree : goal.returns-clause-tree
returns-clause-tree g c =
    let m = committed c.args.store.now in
    let count : c.in-Some.count ≡ block_count m = counted m m _ _ _ _ refl c.in-Some.is c.in_ok-count.ensures.count in
    let family : ℕ → Type 0 =
    λ n. TellsFreeBlocks n (committed c.read_block_count.new.store) c.args.laid.now (Some c.in-Some-2.blocks) in
    space_told m (committed c.read_block_count.new.store) (table m) c.args.laid.now (Some c.in-Some-2.blocks)
    _ c.requires.ready.usable.committed_size c.read_block_count.ensures.store.only.keeps.committed_words refl
    c.requires.extents c.requires.rules
    (subst family count (found_is _ _ _ _ _ c.in-Some-2.is c.in_ok-blocks.ensures.found))
    (λ i. Some (record { blocks = c.in-Some-2.blocks; entries = c.requires.entries i }))
