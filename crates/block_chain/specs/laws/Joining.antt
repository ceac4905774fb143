-- Laws of chains that are joined, from the last one to the first.
use Rattle.std.proofs.Common.{refl, sym, ◌∙◌, ap, subst, arith, inl, inr, ⊎_elim, append_assoc}
use Rattle.std.proofs.Math.ListN.{length-set}
use Rattle.std.specs.Prelude.{◌≡◌, ◌≢◌, ◌⊎◌, ◌<◌, ◌≤◌, ◌+◌, ◌-◌, ℕ, suc, List, [], ◌∷◌, ◌++◌, length, slice_index}
use Rattle.std.specs.Prelude.{slice_set, take, drop, All}
use Rattle.nvm_board.specs.Facts.{address, IsMemory}
use Rattle.nvm_board.specs.declared.board.TheConstants.{PAGE_WORDS}
use Rattle.block_chain.specs.Chains.{Leads, free_chain, HasFree, IsWhole, chain_of, laid}
use Rattle.block_chain.specs.Counts.{count, NoneTwice, IsNotIn}
use Rattle.block_chain.specs.ChainParts.{first_block, joined_chains}
use Rattle.block_chain.specs.BlockWords.{word, IsBlock}
use Rattle.block_chain.specs.declared.chain.Chain.{Chain}
use Rattle.block_chain.specs.declared.layout.TheConstants.{FREE_HEAD}
use Rattle.block_chain.specs.laws.Chains.{leads_joined, leads_same, leads_block}
use Rattle.block_chain.specs.laws.Counts.{count-append, count-index, around}
use Rattle.block_chain.specs.laws.Words.{word-set_other, word-set_same}

pub joined-nil : (m : List ℕ) → joined_chains m [] ≡ m
unfolding joined_chains
joined-nil m = refl

pub joined-cons : (m : List ℕ) (c : Chain) (cs : List Chain)
    → joined_chains m (c ∷ cs) ≡ slice_set (joined_chains m cs) (address c.last 0) (first_block m cs)
unfolding joined_chains
joined-cons m c cs = refl

pub laid-nil : (m : List ℕ) → laid m [] ≡ []
unfolding laid
laid-nil m = refl

pub laid-cons : (m : List ℕ) (c : Chain) (cs : List Chain) → laid m (c ∷ cs) ≡ chain_of m c ++ laid m cs
unfolding laid
laid-cons m c cs = refl

pub length-joined : (m : List ℕ) (cs : List Chain) → length (joined_chains m cs) ≡ length m
unfolding joined_chains
length-joined m [] = refl
length-joined m (c ∷ cs) = length-set (joined_chains m cs) (address c.last 0) (first_block m cs) ∙ length-joined m cs

-- a whole chain, but for its last block, and that
pub whole_split : (m : List ℕ) (c : Chain) → IsWhole m c
    → chain_of m c ≡ take (length (chain_of m c) - 1) (chain_of m c) ++ c.last ∷ []
whole_split m c whole =
    let ps = chain_of m c in
    let k : ℕ = length ps - 1 in
    let some = whole.some in
    let within : k < length ps = omega arith in
    let end : k + 1 ≡ length ps = omega arith in
    around ps k within ∙ (λ i. take k ps ++ sym whole.last i ∷ drop (end i) ps)
    ∙ ap (λ (qs : List ℕ). take k ps ++ c.last ∷ qs) (drop_all ps)
  where
    drop_all : (xs : List ℕ) → drop (length xs) xs ≡ []
    drop_all [] = refl
    drop_all (x ∷ xs) = drop_all xs

pub whole_block : (m : List ℕ) (c : Chain) → IsWhole m c → IsBlock m c.last
whole_block m c whole =
    let some = whole.some in
    let within : length (chain_of m c) - 1 < length (chain_of m c) = omega arith in
    let family : ℕ → Type 0 = λ q. IsBlock m q in
    subst family (sym whole.last) (leads_block m c.first 0 (chain_of m c)
    (length (chain_of m c) - 1) whole.leads within)

pub whole_last : (m : List ℕ) (c : Chain) → IsWhole m c → 1 ≤ count c.last (chain_of m c)
whole_last m c whole =
    let some = whole.some in
    let within : length (chain_of m c) - 1 < length (chain_of m c) = omega arith in
    let family : ℕ → Type 0 = λ q. 1 ≤ count q (chain_of m c) in
    subst family (sym whole.last) (count-index (chain_of m c) (length (chain_of m c) - 1) within)

tail_whole : (m : List ℕ) (c : Chain) (cs : List Chain) → All (IsWhole m) (c ∷ cs) → All (IsWhole m) cs
tail_whole m c cs each = λ i d lt. each (suc i) d (omega (arith, lt))

-- a word that is not the link of one of these blocks stays
pub joined-other : (m : List ℕ) (cs : List Chain) → All (IsWhole m) cs → (page place : ℕ) → place < PAGE_WORDS
    → (place ≢ 0) ⊎ IsNotIn page (laid m cs) → word (joined_chains m cs) page place ≡ word m page place
joined-other m [] each page place small differs = ap (λ (l : List ℕ). word l page place) (joined-nil m)
joined-other m (c ∷ cs) each page place small differs =
    let whole : IsWhole m c = each 0 c (omega arith) in
    let parts : count page (laid m (c ∷ cs)) ≡ count page (chain_of m c) + count page (laid m cs) =
    ap (count page) (laid-cons m c cs) ∙ count-append page (chain_of m c) (laid m cs) in
    let last = whole_last m c whole in
    let apart : (page ≢ c.last) ⊎ (place ≢ 0) = ⊎_elim (λ (away : place ≢ 0). inr away)
    (λ (other : IsNotIn page (laid m (c ∷ cs))). inl (λ is. let e : count page (chain_of m c) ≡ count c.last
    (chain_of m c) =
    ap (λ (q : ℕ). count q (chain_of m c)) is in omega (arith, e, other, parts, last))) differs in
    let rest : (place ≢ 0) ⊎ IsNotIn page (laid m cs) = ⊎_elim (λ (away : place ≢ 0). inl away)
    (λ (other : IsNotIn page (laid m (c ∷ cs))). inr (let z : count page (laid m cs) ≡ 0 = omega
    (arith, other, parts) in z)) differs in
    ap (λ (l : List ℕ). word l page place) (joined-cons m c cs)
    ∙ word-set_other (joined_chains m cs) c.last 0 page place (first_block m cs) (omega arith) small apart
    ∙ joined-other m cs (tail_whole m c cs each) page place small rest

-- the joined chain
pub joined-leads : (m : List ℕ) (cs : List Chain) → IsMemory m → HasFree m → All (IsWhole m) cs
    → NoneTwice (laid m cs ++ free_chain m)
    → Leads (joined_chains m cs) (first_block m cs) (laid m cs ++ free_chain m) 0
unfolding laid
joined-leads m [] sized free each once = let family : List ℕ
    → Type 0 = λ l. Leads l (slice_index m FREE_HEAD) (free_chain m) 0 in subst family (sym (joined-nil m)) free.leads
joined-leads m (c ∷ cs) sized free each once =
    let whole : IsWhole m c = each 0 c (omega arith) in
    let ps = chain_of m c in
    let qs = laid m cs ++ free_chain m in
    let front = take (length ps - 1) ps in
    let n = slice_set (joined_chains m cs) (address c.last 0) (first_block m cs) in
    let split : ps ≡ front ++ c.last ∷ [] = whole_split m c whole in
    let regroup : (ps ++ laid m cs) ++ free_chain m ≡ ps ++ qs = append_assoc ps (laid m cs) (free_chain m) in
    let once_all : NoneTwice (ps ++ qs) = subst NoneTwice regroup once in
    let once_rest : NoneTwice qs = λ q. let most = once_all q in let parts = count-append q ps qs in
    omega (arith, most, parts) in
    let rest : Leads (joined_chains m cs) (first_block m cs) qs 0 =
    joined-leads m cs sized free (tail_whole m c cs each) once_rest in
    let kept : Leads (joined_chains m cs) c.first ps 0 =
    leads_same m (joined_chains m cs) c.first 0 ps (length-joined m cs)
    (λ q some. joined-other m cs (tail_whole m c cs each) q 0 (omega arith) (inr (let most =
    once_all q in let parts =
    count-append q ps qs in let more =
    count-append q (laid m cs) (free_chain m) in let z : count q (laid m cs) ≡ 0 =
    omega (arith, most, parts, more, some) in z))) whole.leads in
    let block = whole_block m c whole in
    let inside : address c.last 0 < length (joined_chains m cs) = let l = length-joined m cs in
    omega (arith, l, block.1, sized.whole, sized.least) in
    let family : List ℕ → Type 0 = λ l. Leads (joined_chains m cs) c.first l 0 in
    let once_split : NoneTwice ((front ++ c.last ∷ []) ++ qs) =
    subst NoneTwice (ap (λ (l : List ℕ). l ++ qs) split) once_all in
    let all : Leads n c.first ((front ++ c.last ∷ []) ++ qs) 0 =
    leads_joined (joined_chains m cs) n c.first c.last (first_block m cs) front qs
    (length-set (joined_chains m cs) (address c.last 0) (first_block m cs)) (subst family split kept) rest once_split
    (word-set_same (joined_chains m cs) c.last 0 (first_block m cs) inside)
    (λ q differs. word-set_other (joined_chains m cs) c.last 0 q 0 (first_block m cs) (omega arith) (omega arith)
    (inl differs)) in
    let back : (front ++ c.last ∷ []) ++ qs ≡ (ps ++ laid m cs) ++ free_chain m =
    ap (λ (l : List ℕ). l ++ qs) (sym split) ∙ sym regroup in
    let same : List ℕ → Type 0 = λ l. Leads n c.first l 0 in
    let words : List ℕ → Type 0 = λ l. Leads l c.first ((ps ++ laid m cs) ++ free_chain m) 0 in
    subst words (sym (joined-cons m c cs)) (subst same back all)
