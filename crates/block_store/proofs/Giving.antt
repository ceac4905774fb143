use Rattle.std.proofs.Common.{◌≡◌, ◌<◌, ℕ, List, ◌++◌, [], ◌∷◌, refl, length, slice_index, slice_set, sym, ◌∙◌}
use Rattle.std.proofs.Common.{subst, arith, inr}
use Rattle.std.proofs.Math.ListN.{length-set}
use Rattle.nvm_board.specs.Facts.{address, IsMemory}
use Rattle.block_chain.specs.Chains.{IsChain, Leads, free_chain, HasFree, AreApart, laid}
use Rattle.block_chain.specs.ChainChanges.{GivesBack}
use Rattle.block_chain.specs.ChainParts.{first_block, joined_chains}
use Rattle.block_chain.specs.declared.chain.Chain.{Chain}
use Rattle.block_chain.specs.declared.layout.TheConstants.{FREE_HEAD, HEADER_PAGE}
use Rattle.block_chain.specs.laws.Chains.{leads_same}
use Rattle.block_chain.specs.laws.Joining.{laid-nil, joined-leads, joined-other, length-joined}
use Rattle.block_chain.specs.laws.Words.{word-set_other, word-set_same}
use Rattle.block_chain.specs.declared.layout.TheConstants.{FREE_HEAD_WORD}

-- Chains whose blocks are free again.

pub gives_back : (m : List ℕ) (cs : List Chain) → IsMemory m → HasFree m → AreApart m cs
    → GivesBack m cs (slice_set (joined_chains m cs) (address HEADER_PAGE FREE_HEAD_WORD) (first_block m cs))
gives_back m cs sized free apart =
    let n = joined_chains m cs in
    let after = slice_set n (address HEADER_PAGE FREE_HEAD_WORD) (first_block m cs) in
    let all = laid m cs ++ free_chain m in
    let leads : Leads n (first_block m cs) all 0 = joined-leads m cs sized free apart.each apart.once in
    let inside : address HEADER_PAGE FREE_HEAD_WORD < length n = let l = length-joined m cs in
    omega (arith, l, sized.whole, sized.least) in
    let head : slice_index after FREE_HEAD ≡ first_block m cs =
    word-set_same n HEADER_PAGE FREE_HEAD_WORD (first_block m cs) inside in
    let links : Leads after (first_block m cs) all 0 =
    leads_same n after (first_block m cs) 0 all
    (length-set n (address HEADER_PAGE FREE_HEAD_WORD) (first_block m cs)) (λ q some. word-set_other n HEADER_PAGE
    FREE_HEAD_WORD q 0 (first_block m cs) (omega arith) (omega arith) (inr (omega arith))) leads in
    let from : ℕ → Type 0 = λ p. Leads after p all 0 in
    record {
      free = record { leads = subst from (sym head) links; once = apart.once; size = apart.size };
      only = record {
        size = length-set n (address HEADER_PAGE FREE_HEAD_WORD) (first_block m cs) ∙ length-joined m cs;
        others = λ page place small differs header.
            word-set_other n HEADER_PAGE FREE_HEAD_WORD page place (first_block m cs) (omega arith) small header
            ∙ joined-other m cs apart.each page place small differs;
      };
    }

-- No chains are given back: nothing is other.
pub gives_none : (m : List ℕ) (cs : List Chain) → length cs ≡ 0 → HasFree m → GivesBack m cs m
gives_none m [] none free = record {
  free = (let family : List ℕ → Type 0 = λ ps. IsChain m (slice_index m FREE_HEAD) (ps ++ free_chain m) in
      subst family (sym (laid-nil m)) free);
  only = record { size = refl; others = λ page place small apart header. refl };
}
gives_none m (c ∷ cs) none free = absurd (omega (arith, none))
