-- Laws of the bytes of chains, word by word.
use Rattle.std.proofs.Common.{ap, get_or-take, get_or-drop}
use Rattle.std.proofs.lemmas.List.{length-drop, length-take-le}
use Rattle.std.proofs.lemmas.Grind.{same_number_lists}
use Rattle.std.proofs.Math.Seq.{take-add}
use Rattle.std.specs.Prelude.{◌++◌, take, drop}
use Rattle.std.proofs.Common.{refl, sym, ◌∙◌, arith, ⊎_elim}
use Rattle.std.proofs.Math.ListN.{get_or-append}
use Rattle.std.proofs.lemmas.Bool.{cases_lt}
use Rattle.std.proofs.lemmas.List.{length-append, get_or-append_right}
use Rattle.std.specs.Prelude.{◌≡◌, ◌<◌, ◌≤◌, ◌+◌, ◌-◌, ◌*◌, ◌/◌, ◌%◌, ℕ, zero, suc, List, [], ◌∷◌, length}
use Rattle.std.specs.Prelude.{slice_index}
use Rattle.nvm_board.specs.Facts.{address, IsMemory}
use Rattle.nvm_board.specs.declared.board.TheConstants.{PAGE_WORDS}
use Rattle.block_chain.specs.Chains.{Leads, bytes_of}
use Rattle.block_chain.specs.BlockWords.{word, link, word_bytes, block_bytes, IsBlock}
use Rattle.block_chain.specs.declared.layout.TheConstants.{BLOCK_BYTES, BLOCK_WORDS}
use Rattle.nvm_board.specs.laws.Sizes.{page_within}
use Rattle.block_chain.specs.laws.Chains.{block_same}
use Rattle.block_chain.specs.laws.Words.{index-block_bytes, length-block_bytes}

-- these are pages of blocks
abbrev pub AreBlocks : List ℕ → List ℕ → Type 0
AreBlocks m [] = Unit {0}
AreBlocks m (p ∷ ps) = IsBlock m p × AreBlocks m ps

-- also in each memory of that size
pub blocks_same : (m after ps : List ℕ) → length after ≡ length m → AreBlocks m ps → AreBlocks after ps
blocks_same m after [] size blocks = tt
blocks_same m after (p ∷ ps) size blocks = (block_same m after p size blocks.0, blocks_same m after ps size blocks.1)

pub leads_blocks : (m : List ℕ) (from to : ℕ) (ps : List ℕ) → Leads m from ps to → AreBlocks m ps
leads_blocks m from to [] leads = tt
leads_blocks m from to (p ∷ ps) leads = (leads.1, leads_blocks m (link m p) to ps leads.2)

pub block_in : (m ps : List ℕ) (k : ℕ) → AreBlocks m ps → k < length ps → IsBlock m (slice_index ps k)
block_in m [] k blocks lt = absurd (omega (arith, lt))
block_in m (p ∷ ps) zero blocks lt = blocks.0
block_in m (p ∷ ps) (suc k) blocks lt = block_in m ps k blocks.1 (omega (arith, lt))

pub blocks_take : (m : List ℕ) (n : ℕ) (ps : List ℕ) → AreBlocks m ps → AreBlocks m (take n ps)
blocks_take m zero ps blocks = tt
blocks_take m (suc n) [] blocks = tt
blocks_take m (suc n) (p ∷ ps) blocks = (blocks.0, blocks_take m n ps blocks.1)

-- content word k of a chain's blocks
abbrev pub content_word : List ℕ → List ℕ → ℕ → ℕ
content_word m ps k = word m (slice_index ps (k / BLOCK_WORDS)) (1 + k % BLOCK_WORDS)

pub length-bytes_of : (m ps : List ℕ) → IsMemory m → AreBlocks m ps
    → length (bytes_of m ps) ≡ BLOCK_BYTES * length ps
unfolding bytes_of
length-bytes_of m [] sized blocks = refl
length-bytes_of m (p ∷ ps) sized blocks =
    let a = length-append (block_bytes m p) (bytes_of m ps) in
    let within : address p PAGE_WORDS ≤ length m = page_within m p sized blocks.0.1 in
    let b = length-block_bytes m p within in
    let c = length-bytes_of m ps sized blocks.1 in omega (arith, a, b, c)

-- a byte of a chain is a byte of one of its content words
pub index-bytes_of : (m ps : List ℕ) (i : ℕ) → IsMemory m → AreBlocks m ps → i < BLOCK_BYTES * length ps
    → slice_index (bytes_of m ps) i ≡ slice_index (word_bytes (content_word m ps (i / 4))) (i % 4)
unfolding bytes_of
index-bytes_of m [] i sized blocks lt = absurd (omega (arith, lt))
index-bytes_of m (p ∷ ps) i sized blocks lt =
    let within : address p PAGE_WORDS ≤ length m = page_within m p sized blocks.0.1 in
    let size = length-block_bytes m p within in
    ⊎_elim
    (λ (here : i < BLOCK_BYTES).
    let front : i < length (block_bytes m p) = omega (arith, here, size) in
    let page : i / 4 / BLOCK_WORDS ≡ 0 = omega (arith, here) in
    let place : i / 4 % BLOCK_WORDS ≡ i / 4 = omega (arith, here) in
    get_or-append (block_bytes m p) (bytes_of m ps) 0 i front ∙ index-block_bytes m p i within here
    ∙ sym (λ k. slice_index (word_bytes (word m (slice_index (p ∷ ps) (page k)) (1 + place k))) (i % 4)))
    (λ (past : BLOCK_BYTES ≤ i).
    let j : ℕ = i - BLOCK_BYTES in
    let below : j < BLOCK_BYTES * length ps = omega (arith, lt, past) in
    let page : i / 4 / BLOCK_WORDS ≡ suc (j / 4 / BLOCK_WORDS) = omega (arith, past) in
    let place : i / 4 % BLOCK_WORDS ≡ j / 4 % BLOCK_WORDS = omega (arith, past) in
    let byte : i % 4 ≡ j % 4 = omega (arith, past) in
    get_or-append_right (block_bytes m p) (bytes_of m ps) BLOCK_BYTES i 0 size past
    ∙ index-bytes_of m ps j sized blocks.1 below
    ∙ sym (λ k. slice_index (word_bytes (word m (slice_index (p ∷ ps) (page k)) (1 + place k))) (byte k)))
    (cases_lt i BLOCK_BYTES)

-- some bytes of a word are bytes of its chain in a row
pub bytes_run : (m ps : List ℕ) (at some : ℕ) → IsMemory m → AreBlocks m ps → at + some ≤ BLOCK_BYTES * length ps
    → at % 4 + some ≤ 4
    → take some (drop (at % 4) (word_bytes (content_word m ps (at / 4)))) ≡ take some (drop at (bytes_of m ps))
bytes_run m ps at some sized blocks within fits =
    let bytes = word_bytes (content_word m ps (at / 4)) in
    let all = length-bytes_of m ps sized blocks in
    let four : length bytes ≡ 4 = refl in
    let a = length-drop (at % 4) bytes in
    let b = length-drop at (bytes_of m ps) in
    let c = length-take-le some (drop (at % 4) bytes) (omega (arith, a, four, fits)) in
    let d = length-take-le some (drop at (bytes_of m ps)) (omega (arith, b, all, within)) in
    same_number_lists _ _ (c ∙ sym d) (λ i lt.
    let small : i < some = omega (arith, lt, c) in
    let inside : at + i < BLOCK_BYTES * length ps = omega (arith, small, within) in
    let number : at / 4 ≡ (at + i) / 4 = omega (arith, small, fits) in
    let place : at % 4 + i ≡ (at + i) % 4 = omega (arith, small, fits) in
    get_or-take some (drop (at % 4) bytes) i 0 small ∙ get_or-drop (at % 4) bytes i 0
    ∙ (λ j. slice_index (word_bytes (content_word m ps (number j))) (place j))
    ∙ sym (index-bytes_of m ps (at + i) sized blocks inside)
    ∙ sym (get_or-take some (drop at (bytes_of m ps)) i 0 small ∙ get_or-drop at (bytes_of m ps) i 0))

-- so many bytes more of a list from an offset on
pub more_bytes : (xs : List ℕ) (offset at some : ℕ) → offset ≤ at
    → take (at + some - offset) (drop offset xs) ≡ take (at - offset) (drop offset xs) ++ take some (drop at xs)
more_bytes xs offset at some from =
    let sum : at + some - offset ≡ at - offset + some = omega (arith, from) in
    ap (λ (n : ℕ). take n (drop offset xs)) sum ∙ take-add (at - offset) some (drop offset xs)
    ∙ ap (λ (ys : List ℕ). take (at - offset) (drop offset xs) ++ take some ys) later
  where
    later : drop (at - offset) (drop offset xs) ≡ drop at xs
    later =
        let a = length-drop (at - offset) (drop offset xs) in
        let b = length-drop offset xs in
        let c = length-drop at xs in
        let all : length (drop (at - offset) (drop offset xs)) ≡ length (drop at xs) = omega (arith, a, b, c, from) in
        same_number_lists _ _ all (λ i lt.
        let place : offset + (at - offset + i) ≡ at + i = omega (arith, from) in
        get_or-drop (at - offset) (drop offset xs) i 0 ∙ get_or-drop offset xs (at - offset + i) 0
        ∙ ap (slice_index xs) place ∙ sym (get_or-drop at xs i 0))
