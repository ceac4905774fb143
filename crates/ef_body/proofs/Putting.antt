-- The words of a body and of its entry, as they are after bytes of its chain were set.
use Rattle.nvm_board.specs.laws.Sizes.{memory_same}
use Rattle.std.proofs.Common.{refl, sym, ◌∙◌, ap, arith, inl, subst, get_or-set_same, get_or-set_other}
use Rattle.std.proofs.Math.ListN.{length-set}
use Rattle.std.specs.Prelude.{◌≡◌, ◌≢◌, ◌<◌, ◌≤◌, ◌+◌, ◌/◌, ◌%◌, ℕ, List, length, slice_index}
use Rattle.std.specs.Prelude.{slice_set}
use Rattle.nvm_board.specs.Facts.{address, IsMemory}
use Rattle.undo_journal.specs.declared.layout.TheConstants.{GATE}
use Rattle.block_chain.specs.declared.chain.Chain.{Chain}
use Rattle.block_chain.specs.declared.layout.TheConstants.{FIRST_BLOCK_PAGE, MOST_BLOCKS, BLOCK_WORDS}
use Rattle.block_chain.specs.BlockWords.{word}
use Rattle.block_chain.specs.Chains.{chain_of, bytes_of, IsChain}
use Rattle.block_chain.specs.ChainChanges.{Overwrites}
use Rattle.block_chain.specs.laws.Bytes.{blocks_same, leads_blocks, block_in}
use Rattle.block_chain.specs.laws.Chains.{leads_same, pages_are}
use Rattle.block_chain.specs.laws.Footprints.{bytes_same}
use Rattle.block_chain.specs.laws.Laying.{leads_count, pages_most}
use Rattle.ef_body.specs.BodyChanges.{PutsRecord}

module _ (m mid : List ℕ) (c : Chain) (offset : ℕ) (bytes : List ℕ) (sized : IsMemory m)
    (is : IsChain m c.first (chain_of m c)) (over : Overwrites m (chain_of m c) offset bytes mid) where
  mid_sized : IsMemory mid
  mid_sized = memory_same m mid over.only.size sized

  module _ (counts_at new_counts : ℕ) (low : counts_at < GATE) where
    abbrev pub after : List ℕ
    after = slice_set mid counts_at new_counts

    elsewhere : (page place : ℕ) → address page place ≢ counts_at → word after page place ≡ word mid page place
    elsewhere page place other = get_or-set_other mid counts_at (address page place) new_counts 0 other

    in_block : (page place : ℕ) → FIRST_BLOCK_PAGE ≤ page → word after page place ≡ word mid page place
    in_block page place from =
        elsewhere page place (λ same. let z : ⊥ = omega (arith, from, low, same) in z)

    blocks_kept : chain_of after c ≡ chain_of m c
    blocks_kept =
        pages_are after MOST_BLOCKS c.first (chain_of m c)
        (leads_same m after c.first 0 (chain_of m c) (length-set mid counts_at new_counts ∙ over.only.size)
        (λ q some. in_block q 0 (leads_count m c.first 0 q (chain_of m c) is.leads some).0
        ∙ over.only.others q 0 (omega arith) (inl refl)) is.leads)
        (pages_most m MOST_BLOCKS c.first)

    bytes_kept : bytes_of after (chain_of m c) ≡ bytes_of mid (chain_of m c)
    bytes_kept =
        let blocks =
        blocks_same m mid (chain_of m c) over.only.size (leads_blocks m c.first 0 (chain_of m c) is.leads) in
        bytes_same mid after (chain_of m c) mid_sized (length-set mid counts_at new_counts) blocks (λ j lt.
        let within : j / BLOCK_WORDS < length (chain_of m c) = omega (arith, lt) in
        in_block (slice_index (chain_of m c) (j / BLOCK_WORDS)) (1 + j % BLOCK_WORDS)
        (block_in mid (chain_of m c) (j / BLOCK_WORDS) blocks within).0)

    pub puts_record : PutsRecord m c offset bytes counts_at new_counts after
    puts_record = record {
      becomes = ap (bytes_of after) blocks_kept ∙ bytes_kept ∙ over.content;
      tells = (let inside : counts_at < length mid = omega (arith, mid_sized, low) in
          get_or-set_same mid counts_at new_counts 0 inside);
      blocks = blocks_kept;
      only = record {
        size = length-set mid counts_at new_counts ∙ over.only.size;
        others = λ page place small away other. elsewhere page place other ∙ over.only.others page place small away;
      };
    }

-- the same of the words that a set leaves
pub puts : (m mid new : List ℕ) (c : Chain) (offset : ℕ) (bytes : List ℕ) (counts_at new_counts : ℕ) → IsMemory m
    → IsChain m c.first (chain_of m c) → counts_at < GATE → Overwrites m (chain_of m c) offset bytes mid
    → new ≡ slice_set mid counts_at new_counts → PutsRecord m c offset bytes counts_at new_counts new
puts m mid new c offset bytes counts_at new_counts sized is low over set =
    let family : List ℕ → Type 0 = λ l. PutsRecord m c offset bytes counts_at new_counts l in
    subst family (sym set) (puts_record m mid c offset bytes sized is over counts_at new_counts low)
