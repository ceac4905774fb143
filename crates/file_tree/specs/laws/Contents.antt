-- The blocks and the bytes of entries: those of two entries are apart.
use Rattle.std.specs.Prelude.{◌≡◌, ◌<◌, ◌≤◌, ◌+◌, ℕ, zero, suc, List, [], ◌∷◌, length, Option, None, Some}
use Rattle.std.specs.List.{cons_option}
use Rattle.std.specs.Option.{option_map_or}
use Rattle.std.proofs.Common.{◌∙◌, ap, arith}
use Rattle.block_chain.specs.declared.chain.Extent.{Extent}
use Rattle.block_chain.specs.Counts.{count}
use Rattle.block_chain.specs.Chains.{bytes_of}
use Rattle.block_chain.specs.Layout.{blocks_of, laid_out}
use Rattle.block_chain.specs.laws.Counts.{count-append, count-nil}
use Rattle.block_chain.specs.laws.Laying.{laid_out-cons}
use Rattle.file_tree.specs.declared.entry.Entry.{Entry}
use Rattle.file_tree.specs.Entries.{extent_of, extent_told}
use Rattle.file_tree.specs.Table.{entry_in, extents}
use Rattle.file_tree.specs.Trees.{content}
use Rattle.file_tree.specs.laws.Costs.{extent_of-none, extent_of-some}

-- the bytes of an entry without blocks, and with some
pub content-none : (m : List ℕ) (x : Entry) → x.kind < 2 → content m x ≡ []
unfolding content
content-none m x low =
    ap (λ (o : Option Extent). option_map_or (λ k. bytes_of m (blocks_of m k)) o []) (extent_of-none x low)

pub content-some : (m : List ℕ) (x : Entry) → 2 ≤ x.kind → content m x ≡ bytes_of m (blocks_of m (extent_told x))
unfolding content
content-some m x high =
    ap (λ (o : Option Extent). option_map_or (λ k. bytes_of m (blocks_of m k)) o []) (extent_of-some x high)

-- the blocks that an entry may name
abbrev pub blocks_named : List ℕ → Option Extent → List ℕ
blocks_named m o = option_map_or (blocks_of m) o []

named_first : (m : List ℕ) (q : ℕ) (o : Option Extent) (rest : List Extent)
    → count q (laid_out m (cons_option o rest)) ≡ count q (blocks_named m o) + count q (laid_out m rest)
named_first m q None rest = let none = count-nil q in omega (arith, none)
named_first m q (Some x) rest = ap (count q) (laid_out-cons m x rest) ∙ count-append q (blocks_of m x) (laid_out m rest)

-- one entry's blocks are among those of all, and so are those of two together
pub count_named : (m : List ℕ) (q : ℕ) (t : List Entry) (e : ℕ) → e < length t
    → count q (blocks_named m (extent_of (entry_in t e))) ≤ count q (laid_out m (extents t))
count_named m q [] e lt = absurd (omega (arith, lt))
count_named m q (x ∷ t) zero lt = let first = named_first m q (extent_of x) (extents t) in omega (arith, first)
count_named m q (x ∷ t) (suc e) lt =
    let first = named_first m q (extent_of x) (extents t) in
    let rest = count_named m q t e (omega (arith, lt)) in
    omega (arith, first, rest)

pub count_both : (m : List ℕ) (q : ℕ) (t : List Entry) (e f : ℕ) → e < f → f < length t
    → count q (blocks_named m (extent_of (entry_in t e))) + count q (blocks_named m (extent_of (entry_in t f)))
    ≤ count q (laid_out m (extents t))
count_both m q [] e f lt below = absurd (omega (arith, below))
count_both m q (x ∷ t) e zero lt below = absurd (omega (arith, lt))
count_both m q (x ∷ t) zero (suc f) lt below =
    let first = named_first m q (extent_of x) (extents t) in
    let rest = count_named m q t f (omega (arith, below)) in
    omega (arith, first, rest)
count_both m q (x ∷ t) (suc e) (suc f) lt below =
    let first = named_first m q (extent_of x) (extents t) in
    let rest = count_both m q t e f (omega (arith, lt)) (omega (arith, below)) in
    omega (arith, first, rest)

-- the blocks of an elementary file's entry
pub named-some : (m : List ℕ) (x : Entry) → 2 ≤ x.kind → blocks_named m (extent_of x) ≡ blocks_of m (extent_told x)
named-some m x high = ap (blocks_named m) (extent_of-some x high)
