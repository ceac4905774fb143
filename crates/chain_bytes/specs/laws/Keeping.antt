-- What an update of bytes leaves as it is: their chain, and the words before the gate.
use Rattle.std.proofs.Common.{refl, sym, ◌∙◌, ap, arith, inl, inr}
use Rattle.std.specs.Prelude.{◌≡◌, ◌<◌, ◌/◌, ◌%◌, ℕ, List, slice_index}
use Rattle.nvm_board.specs.Facts.{address, IsMemory}
use Rattle.nvm_board.specs.declared.board.TheConstants.{PAGE_WORDS}
use Rattle.undo_journal.specs.declared.layout.TheConstants.{GATE}
use Rattle.block_chain.specs.declared.chain.Chain.{Chain}
use Rattle.block_chain.specs.declared.layout.TheConstants.{MOST_BLOCKS}
use Rattle.block_chain.specs.Counts.{IsNotIn}
use Rattle.block_chain.specs.Chains.{chain_of, IsChain}
use Rattle.block_chain.specs.ChainChanges.{Overwrites}
use Rattle.block_chain.specs.laws.Bytes.{leads_blocks}
use Rattle.block_chain.specs.laws.Chains.{leads_same, pages_are}
use Rattle.block_chain.specs.laws.Footprints.{not_among}
use Rattle.block_chain.specs.laws.Laying.{pages_most}

module _ (m mid : List ℕ) (c : Chain) (offset : ℕ) (bytes : List ℕ) (sized : IsMemory m)
    (is : IsChain m c.first (chain_of m c)) (over : Overwrites m (chain_of m c) offset bytes mid) where
  -- the chain stays
  pub chain_kept : chain_of mid c ≡ chain_of m c
  chain_kept =
      pages_are mid MOST_BLOCKS c.first (chain_of m c)
      (leads_same m mid c.first 0 (chain_of m c) over.only.size
      (λ q some. over.only.others q 0 (omega arith) (inl refl)) is.leads)
      (pages_most m MOST_BLOCKS c.first)

  -- and so does each word before the gate
  pub before_kept : (at : ℕ) → at < GATE → slice_index mid at ≡ slice_index m at
  before_kept at low =
      let place : address (at / PAGE_WORDS) (at % PAGE_WORDS) ≡ at = omega arith in
      let away : IsNotIn (at / PAGE_WORDS) (chain_of m c) =
      not_among m (at / PAGE_WORDS) (λ block. let from = block.0 in let z : ⊥ = omega (arith, from, low) in z)
      (chain_of m c) (leads_blocks m c.first 0 (chain_of m c) is.leads) in
      ap (slice_index mid) (sym place)
      ∙ over.only.others (at / PAGE_WORDS) (at % PAGE_WORDS) (omega arith) (inr away)
      ∙ ap (slice_index m) place
