-- Laws of free blocks whose bytes are all set to one.
use Rattle.std.proofs.lemmas.Grind.{same_number_lists}
use Rattle.block_chain.specs.laws.Bytes.{length-bytes_of, blocks_take}
use Rattle.std.proofs.Common.{sym, ◌∙◌, ap, arith, inl, inr, ⊎_elim, get_or-take}
use Rattle.std.proofs.lemmas.Bool.{cases_lt}
use Rattle.std.proofs.lemmas.Bool.Decides.{eqb_tells}
use Rattle.std.proofs.lemmas.List.{length-take-le, get_or-replicate, length-replicate}
use Rattle.std.specs.Prelude.{◌≡◌, ◌≢◌, ◌⊎◌, ◌<◌, ◌≤◌, ◌+◌, ◌-◌, ◌*◌, ◌/◌, ◌%◌, ℕ, zero, suc, List, length}
use Rattle.std.specs.Prelude.{slice_index, take, replicate}
use Rattle.nvm_board.specs.Facts.{address, IsMemory}
use Rattle.nvm_board.specs.History.{written}
use Rattle.nvm_board.specs.Torn.{IsMixture}
use Rattle.nvm_board.specs.laws.Torn.{written-inside, written-elsewhere}
use Rattle.nvm_board.specs.declared.board.TheConstants.{PAGE_WORDS}
use Rattle.block_chain.specs.Chains.{bytes_of}
use Rattle.block_chain.specs.ChainChanges.{OnlyContent}
use Rattle.block_chain.specs.Counts.{count, NoneTwice, IsNotIn}
use Rattle.block_chain.specs.ChainParts.{filled_word}
use Rattle.block_chain.specs.BlockWords.{word, word_bytes, IsBlock}
use Rattle.block_chain.specs.declared.layout.TheConstants.{BLOCK_BYTES, BLOCK_WORDS}
use Rattle.block_chain.specs.laws.Bytes.{AreBlocks, index-bytes_of}
use Rattle.block_chain.specs.laws.Counts.{count-index, apart}

-- each content word of these blocks is this word
abbrev pub AreFilled : List ℕ → List ℕ → ℕ → Type 0
AreFilled m ps w = (k place : ℕ) → k < length ps → 1 ≤ place → place < PAGE_WORDS → word m (slice_index ps k) place ≡ w

-- one block more has its content words written, whole or torn
pub fill_more : (m now after ps : List ℕ) (k page : ℕ) (run : List ℕ) → OnlyContent m ps now → k < length ps
    → page ≡ slice_index ps k → length run ≡ BLOCK_WORDS
    → IsMixture now (address page 1) run after → OnlyContent m ps after
fill_more m now after ps k page run only within is long mixture = record {
  size = mixture.size ∙ only.size;
  others = λ other place small apart.
      mixture.elsewhere (address other place) (⊎_elim
      (λ (link : place ≡ 0). ⊎_elim
      (λ (below : other ≤ page). inl (let z : address other place < address page 1 = omega (arith, link, below) in
      z))
      (λ (above : page < other). inr (let z : address page 1 + length run ≤ address other place = omega
      (arith, link, above, long) in z))
      (cases_le other page))
      (λ (away : IsNotIn other ps).
      let some = count-index ps k within in
      let differ : other ≢ page =
      λ e. let c : count other ps ≡ count (slice_index ps k) ps =
      ap (λ (q : ℕ). count q ps) (e ∙ is) in let z : ⊥ = omega (arith, some, c, away) in z in
      ⊎_elim
      (λ (below : other ≤ page). inl (let z : address other place < address page 1 = omega
      (arith, differ, below, small) in z))
      (λ (above : page < other). inr (let z : address page 1 + length run ≤ address other place = omega
      (arith, above, long) in z))
      (cases_le other page))
      apart)
      ∙ only.others other place small apart;
}
  where
    cases_le : (a b : ℕ) → (a ≤ b) ⊎ (b < a)
    cases_le a b = ⊎_elim (λ (lt : b < a). inr lt) (λ (le : a ≤ b). inl le) (cases_lt b a)

-- blocks that are filled hold that byte alone
pub filled_bytes : (m ps : List ℕ) (byte : ℕ) → IsMemory m → AreBlocks m ps → byte < 256
    → AreFilled m ps (filled_word byte) → (i : ℕ) → i < BLOCK_BYTES * length ps → slice_index (bytes_of m ps) i ≡ byte
filled_bytes m ps byte sized blocks small filled i lt =
    let k_in : i / 4 / BLOCK_WORDS < length ps = omega (arith, lt) in
    index-bytes_of m ps i sized blocks lt
    ∙ ap (λ (w : ℕ). slice_index (word_bytes w) (i % 4))
    (filled (i / 4 / BLOCK_WORDS) (1 + i / 4 % BLOCK_WORDS) k_in (omega arith) (omega arith))
    ∙ same_byte (i % 4) (omega arith)
  where
    same_byte : (place : ℕ) → place < 4 → slice_index (word_bytes (filled_word byte)) place ≡ byte
    same_byte zero lt = omega (arith, small)
    same_byte (suc zero) lt = omega (arith, small)
    same_byte (suc (suc zero)) lt = omega (arith, small)
    same_byte (suc (suc (suc zero))) lt = omega (arith, small)
    same_byte (suc (suc (suc (suc place)))) lt = absurd (omega (arith, lt))

-- One block more is filled.
pub filled_more : (now after ps : List ℕ) (n i page w : ℕ) → NoneTwice ps → i < n → n ≤ length ps
    → page ≡ slice_index ps i → IsBlock now page → IsMemory now
    → after ≡ written now (address page 1) (replicate BLOCK_WORDS w) → AreFilled now (take i ps) w
    → AreFilled after (take (i + 1) ps) w
filled_more now after ps n i page w once lt enough is block sized done filled k place below low high =
    let size = length-take-le (i + 1) ps (omega (arith, lt, enough)) in
    let long = length-replicate BLOCK_WORDS w in
    let k_in : k < i + 1 = omega (arith, below, size) in
    let same : slice_index (take (i + 1) ps) k ≡ slice_index ps k = get_or-take (i + 1) ps k 0 k_in in
    ap (λ (l : List ℕ). word l (slice_index (take (i + 1) ps) k) place) done
    ∙ ap (λ (q : ℕ). word (written now (address page 1) (replicate BLOCK_WORDS w)) q place) same
    ∙ elim (eqb_tells k i) [
      | inl here ↦
          let at : address (slice_index ps k) place ≡ address page 1 + (place - 1) =
          let e : slice_index ps k ≡ page = ap (slice_index ps) here.1 ∙ sym is in omega (arith, e, low) in
          let fits : address page 1 + length (replicate BLOCK_WORDS w) ≤ length now =
          omega (arith, long, sized.whole, sized.least, block.1) in
          let inside : place - 1 < length (replicate BLOCK_WORDS w) = omega (arith, long, low, high) in
          ap (slice_index (written now (address page 1) (replicate BLOCK_WORDS w))) at
          ∙ written-inside now (replicate BLOCK_WORDS w) (address page 1) (place - 1) fits inside
          ∙ get_or-replicate BLOCK_WORDS (place - 1) w 0 (omega (arith, low, high))
      | inr other ↦
          let before : k < i = (let d = other.1 in omega (arith, d, k_in)) in
          let i_in : i < length ps = omega (arith, lt, enough) in
          let differ : slice_index ps k ≢ page = λ e. apart ps once k i before i_in (e ∙ is) in
          let elsewhere : (address (slice_index ps k) place < address page 1) ⊎
          (address page 1 + length (replicate BLOCK_WORDS w) ≤ address (slice_index ps k) place) = ⊎_elim
          (λ (less : slice_index ps k < page). inl (let z : address (slice_index ps k) place < address page 1 =
          omega (arith, less, high) in z))
          (λ (more : page ≤ slice_index ps k). inr
          (let z : address page 1 + length (replicate BLOCK_WORDS w) ≤ address (slice_index ps k) place =
          omega (arith, more, differ, long) in z))
          (cases_lt (slice_index ps k) page) in
          let earlier : slice_index (take i ps) k ≡ slice_index ps k = get_or-take i ps k 0 before in
          let k_earlier : k < length (take i ps) =
          (let l = length-take-le i ps (omega (arith, lt, enough)) in omega (arith, l, before)) in
          written-elsewhere now (replicate BLOCK_WORDS w) (address page 1) (address (slice_index ps k) place) elsewhere
          ∙ sym (ap (λ (q : ℕ). word now q place) earlier) ∙ filled k place k_earlier low high
    ]

-- so all their bytes are this one
pub all_filled : (m ps : List ℕ) (byte : ℕ) → IsMemory m → AreBlocks m ps → byte < 256
    → AreFilled m ps (filled_word byte)
    → bytes_of m ps ≡ replicate (BLOCK_BYTES * length ps) byte
all_filled m ps byte sized blocks small filled =
    let all = length-bytes_of m ps sized blocks in
    same_number_lists _ _ (all ∙ sym (length-replicate (BLOCK_BYTES * length ps) byte)) (λ i lt.
    let inside : i < BLOCK_BYTES * length ps = omega (arith, lt, all) in
    filled_bytes m ps byte sized blocks small filled i inside
    ∙ sym (get_or-replicate (BLOCK_BYTES * length ps) i byte 0 inside))

-- the first n of these blocks are filled: n times as many bytes
pub first_filled : (m ps : List ℕ) (n byte : ℕ) → IsMemory m → AreBlocks m ps → n ≤ length ps → byte < 256
    → AreFilled m (take n ps) (filled_word byte) → bytes_of m (take n ps) ≡ replicate (BLOCK_BYTES * n) byte
first_filled m ps n byte sized blocks enough small filled =
    all_filled m (take n ps) byte sized (blocks_take m n ps blocks) small filled
    ∙ ap (λ (k : ℕ). replicate (BLOCK_BYTES * k) byte) (length-take-le n ps enough)
