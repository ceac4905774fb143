-- The rest of a chain, from one of its blocks on, is a chain.
use Rattle.std.proofs.Common.{refl, sym, ◌∙◌, ap, arith, subst, get_or-drop}
use Rattle.std.proofs.lemmas.List.{length-drop, length-append, get_or-append_right}
use Rattle.std.proofs.lemmas.Grind.{same_number_lists}
use Rattle.std.specs.Prelude.{◌≡◌, ◌<◌, ◌≤◌, ◌+◌, ◌-◌, ◌*◌, ◌/◌, ◌%◌, ℕ}
use Rattle.std.specs.Prelude.{zero, suc, List, [], ◌∷◌, ◌++◌, length, take, drop}
use Rattle.std.specs.Prelude.{slice_index}
use Rattle.nvm_board.specs.Facts.{address, IsMemory}
use Rattle.nvm_board.specs.declared.board.TheConstants.{PAGE_WORDS}
use Rattle.nvm_board.specs.laws.Sizes.{page_within}
use Rattle.block_chain.specs.declared.chain.Chain.{Chain}
use Rattle.block_chain.specs.declared.layout.TheConstants.{BLOCK_BYTES, FILE_BYTES, MOST_BLOCKS}
use Rattle.block_chain.specs.BlockWords.{link, block_bytes}
use Rattle.block_chain.specs.Chains.{Leads, chain, chain_of, chain_bytes, bytes_of}
use Rattle.block_chain.specs.laws.Bytes.{AreBlocks, leads_blocks}
use Rattle.block_chain.specs.laws.Chains.{pages_are, leads_first}
use Rattle.block_chain.specs.laws.Laying.{pages_most}
use Rattle.block_chain.specs.laws.Words.{length-block_bytes}
use Rattle.ef_body.specs.declared.chain_block.ChainBlock.{ChainBlock}
use Rattle.ef_body.specs.declared.cyclic.Cyclic.{Cyclic}
use Rattle.ef_body.specs.Bodies.{IsCyclic}
use Rattle.ef_body.specs.ReadParts.{IsBlockOf}
use Rattle.ef_contents.specs.laws.Slots.{slot-within}

-- the links lead on from each block
leads_from : (m : List ℕ) (from : ℕ) (ps : List ℕ) (k : ℕ) → Leads m from ps 0 → k < length ps
    → Leads m (slice_index ps k) (drop k ps) 0
leads_from m from [] k leads lt = absurd (omega (arith, lt))
leads_from m from (p ∷ ps) zero leads lt = (refl, leads.1, leads.2)
leads_from m from (p ∷ ps) (suc k) leads lt = leads_from m (link m p) ps k leads.2 (omega (arith, lt))

-- a list without the first of two parts
drop_part : (xs ys : List ℕ) (n k : ℕ) → length xs ≡ n → drop (n + k) (xs ++ ys) ≡ drop k ys
drop_part xs ys n k long =
    let a = length-drop (n + k) (xs ++ ys) in
    let b = length-append xs ys in
    let c = length-drop k ys in
    same_number_lists _ _ (omega (arith, a, b, c, long)) (λ i lt.
    let place : n + k + i - n ≡ k + i = omega arith in
    get_or-drop (n + k) (xs ++ ys) i 0
    ∙ get_or-append_right xs ys n (n + k + i) 0 long (omega arith)
    ∙ ap (slice_index ys) place ∙ sym (get_or-drop k ys i 0))

-- the bytes of the blocks from one on
bytes_from : (m ps : List ℕ) (k : ℕ) → IsMemory m → AreBlocks m ps → k < length ps
    → bytes_of m (drop k ps) ≡ drop (BLOCK_BYTES * k) (bytes_of m ps)
unfolding bytes_of
bytes_from m [] k sized blocks lt = absurd (omega (arith, lt))
bytes_from m (p ∷ ps) zero sized blocks lt = refl
bytes_from m (p ∷ ps) (suc k) sized blocks lt =
    let within : address p PAGE_WORDS ≤ length m = page_within m p sized blocks.0.1 in
    let long = length-block_bytes m p within in
    let next : BLOCK_BYTES + BLOCK_BYTES * k ≡ BLOCK_BYTES * suc k = omega arith in
    bytes_from m ps k sized blocks.1 (omega (arith, lt))
    ∙ sym (drop_part (block_bytes m p) (bytes_of m ps) BLOCK_BYTES (BLOCK_BYTES * k) long)
    ∙ ap (λ (n : ℕ). drop n (block_bytes m p ++ bytes_of m ps)) next

-- what is known of the blocks from one on
pub record IsRest (m : List ℕ) (c : Chain) (block : ChainBlock) : Type 0 where
  pub blocks : chain m block.page ≡ drop block.number (chain_of m c)
  pub size : length (chain m block.page) + block.number ≡ length (chain_of m c)
  pub leads : Leads m block.page (chain m block.page) 0

module _ (m : List ℕ) (c : Chain) (leads : Leads m c.first (chain_of m c) 0) where
  pub rest_of : (block : ChainBlock) → IsBlockOf m c block → IsRest m c block
  rest_of block is =
      let ps = chain_of m c in
      let k = block.number in
      let on = leads_from m c.first ps k leads is.within in
      let few = pages_most m MOST_BLOCKS c.first in
      let left = length-drop k ps in
      let within = is.within in
      let here : chain m (slice_index ps k) ≡ drop k ps =
      pages_are m MOST_BLOCKS (slice_index ps k) (drop k ps) on (omega (arith, left, few)) in
      let blocks : chain m block.page ≡ drop k ps = ap (chain m) is.page ∙ here in
      let many : length (chain m block.page) ≡ length (drop k ps) = ap (λ (l : List ℕ). length l) blocks in
      record {
        blocks = blocks;
        size = omega (arith, many, left, within);
        leads = (let by_blocks : List ℕ → Type 0 = λ qs. Leads m block.page qs 0 in
            let by_page : ℕ → Type 0 = λ p. Leads m p (drop k ps) 0 in
            subst by_blocks (sym blocks) (subst by_page (sym is.page) on));
      }

  -- the first block is one, if there is one
  pub first_is : (block : ChainBlock) → block.number ≡ 0 → block.page ≡ c.first → 0 < length (chain_of m c)
      → IsBlockOf m c block
  first_is block number page some = record {
    within = omega (arith, number, some);
    page = page ∙ leads_first m c.first (chain_of m c) leads ∙ ap (slice_index (chain_of m c)) (sym number);
  }

  -- a block behind another, by its place in the rest
  pub block_on : (from : ChainBlock) (number page : ℕ) → IsBlockOf m c from → from.number ≤ number
      → page ≡ slice_index (chain m from.page) (number - from.number) → page ≡ slice_index (chain_of m c) number
  block_on from number page is low at =
      let rest = rest_of from is in
      let place : from.number + (number - from.number) ≡ number = omega (arith, low) in
      at ∙ ap (λ (qs : List ℕ). slice_index qs (number - from.number)) rest.blocks
      ∙ get_or-drop from.number (chain_of m c) (number - from.number) 0 ∙ ap (slice_index (chain_of m c)) place

  -- bytes of the chain, read from the rest
  pub bytes_on : (block : ChainBlock) (offset count : ℕ) → IsMemory m → IsBlockOf m c block
      → block.number ≡ offset / BLOCK_BYTES
      → take count (drop (offset % BLOCK_BYTES) (bytes_of m (chain m block.page)))
      ≡ take count (drop offset (chain_bytes m c))
  bytes_on block offset count sized is at =
      let ps = chain_of m c in
      let rest = rest_of block is in
      let bytes = bytes_from m ps block.number sized (leads_blocks m c.first 0 ps leads) is.within in
      let place : BLOCK_BYTES * block.number + offset % BLOCK_BYTES ≡ offset = omega (arith, at) in
      ap (λ (l : List ℕ). take count (drop (offset % BLOCK_BYTES) l)) (ap (bytes_of m) rest.blocks ∙ bytes)
      ∙ ap (take count) (drop_twice (offset % BLOCK_BYTES) (BLOCK_BYTES * block.number) (bytes_of m ps)
      ∙ ap (λ (n : ℕ). drop n (bytes_of m ps)) place)
    where
      drop_twice : (j k : ℕ) (xs : List ℕ) → drop j (drop k xs) ≡ drop (k + j) xs
      drop_twice j k xs =
          let a = length-drop j (drop k xs) in
          let b = length-drop k xs in
          let d = length-drop (k + j) xs in
          same_number_lists _ _ (omega (arith, a, b, d)) (λ i lt.
          let place : k + (j + i) ≡ k + j + i = omega arith in
          get_or-drop j (drop k xs) i 0 ∙ get_or-drop k xs (j + i) 0 ∙ ap (slice_index xs) place
          ∙ sym (get_or-drop (k + j) xs i 0))

-- a ring has blocks, as it has a slot
pub has_blocks : (m : List ℕ) (ring : Cyclic) → IsCyclic m ring → 0 < length (chain_of m ring.chain)
has_blocks m ring is =
    let room = is.slots.room in
    let first = slot-within ring.record_length 0 ring.capacity (omega (arith, room)) in
    let fits = is.slots.fits in
    let some = is.slots.some in
    omega (arith, first, fits, some)

-- a record lies in the rest of the chain, from the block in which it begins
pub rest_holds : (offset slot size capacity blocks rest number : ℕ) → offset ≡ slot * size
    → slot * size + size ≤ capacity * size → capacity * size ≤ BLOCK_BYTES * blocks → number ≡ offset / BLOCK_BYTES
    → rest + number ≡ blocks → offset % BLOCK_BYTES + size ≤ BLOCK_BYTES * rest
rest_holds offset slot size capacity blocks rest number at inside fits is all =
    omega (arith, at, inside, fits, is, all)

-- and ends within the bytes of a file
pub rest_small : (offset size : ℕ) → size ≤ 255 → offset % BLOCK_BYTES + size ≤ FILE_BYTES
rest_small offset size short = omega (arith, short)

-- and an empty buffer has room for it
pub buffer_holds : (before size n : ℕ) → before ≡ 0 → size ≤ n → before + size ≤ n
buffer_holds before size n empty room = omega (arith, empty, room)
