-- Laws of words by page and place, and of the bytes of pages and blocks.
use Rattle.std.proofs.Common.{subst}
use Rattle.std.proofs.lemmas.List.{get_or_default}
use Rattle.std.specs.Prelude.{All, slice_index_or}
use Rattle.std.proofs.Common.{arith, ⊎_elim, get_or-set_same, get_or-set_other, refl, sym, ◌∙◌, ap, ap₂}
use Rattle.std.proofs.Common.{get_or-take, get_or-drop, length-take, length-drop}
use Rattle.std.specs.List.{flat_map}
use Rattle.std.specs.Prelude.{◌≡◌, ◌≢◌, ◌⊎◌, ◌<◌, ℕ, List, length, slice_set, ◌≤◌, ◌+◌, ◌*◌, ◌/◌, ◌%◌, zero, suc}
use Rattle.std.specs.Prelude.{[], ◌∷◌, drop, slice_index}
use Rattle.nvm_board.specs.Facts.{address}
use Rattle.nvm_board.specs.declared.board.TheConstants.{PAGE_WORDS}
use Rattle.block_chain.specs.BlockWords.{word, word_bytes, page_words, block_bytes}
use Rattle.block_chain.specs.declared.layout.TheConstants.{BLOCK_BYTES}

-- another word of a memory stays
pub word-set_other : (m : List ℕ) (page place other there w : ℕ) → place < PAGE_WORDS → there < PAGE_WORDS
    → (other ≢ page) ⊎ (there ≢ place) → word (slice_set m (address page place) w) other there ≡ word m other there
word-set_other m page place other there w small below differ =
    get_or-set_other m (address page place) (address other there) w 0 (λ is. ⊎_elim
    (λ (page_differs : other ≢ page). page_differs (let z : other ≡ page = omega (arith, is, small, below) in z))
    (λ (place_differs : there ≢ place). place_differs (let z : there ≡ place = omega (arith, is, small, below) in z))
    differ)

pub word-set_same : (m : List ℕ) (page place w : ℕ) → address page place < length m
    → word (slice_set m (address page place) w) page place ≡ w
word-set_same m page place w within = get_or-set_same m (address page place) w 0 within

-- a byte of some words is a byte of one of them
pub index-bytes : (ws : List ℕ) (k : ℕ) → k < 4 * length ws
    → slice_index (flat_map word_bytes ws) k ≡ slice_index (word_bytes (slice_index ws (k / 4))) (k % 4)
index-bytes [] k lt = absurd (omega arith)
index-bytes (w ∷ ws) zero lt = refl
index-bytes (w ∷ ws) (suc zero) lt = refl
index-bytes (w ∷ ws) (suc (suc zero)) lt = refl
index-bytes (w ∷ ws) (suc (suc (suc zero))) lt = refl
index-bytes (w ∷ ws) (suc (suc (suc (suc k)))) lt =
    let below : k < 4 * length ws = omega arith in
    let quotient : suc (suc (suc (suc k))) / 4 ≡ suc (k / 4) = omega arith in
    let remainder : suc (suc (suc (suc k))) % 4 ≡ k % 4 = omega arith in
    index-bytes ws k below
    ∙ sym (ap₂ (λ (q r : ℕ). slice_index (word_bytes (slice_index (w ∷ ws) q)) r) quotient remainder)

-- a word of a page is a word of the memory
pub index-page_words : (m : List ℕ) (page place : ℕ) → place < PAGE_WORDS
    → slice_index (page_words m page) place ≡ word m page place
unfolding page_words
index-page_words m page place lt =
    let at : address page 0 + place ≡ address page place = omega arith in
    get_or-take PAGE_WORDS (drop (address page 0) m) place 0 lt ∙ get_or-drop (address page 0) m place 0
    ∙ ap (slice_index m) at

-- a page within the memory has all its words
pub length-page_words : (m : List ℕ) (page : ℕ) → address page PAGE_WORDS ≤ length m
    → length (page_words m page) ≡ PAGE_WORDS
unfolding page_words
length-page_words m page within =
    let t = length-take PAGE_WORDS (drop (address page 0) m) in let d = length-drop (address page 0) m in
    omega (arith, t, d)

-- a byte of a block is a byte of a word of the memory
pub index-block_bytes : (m : List ℕ) (page at : ℕ) → address page PAGE_WORDS ≤ length m → at < BLOCK_BYTES
    → slice_index (block_bytes m page) at ≡ slice_index (word_bytes (word m page (1 + at / 4))) (at % 4)
index-block_bytes m page at within lt =
    let whole = length-page_words m page within in
    let size = length-drop 1 (page_words m page) in
    let below : at < 4 * length (drop 1 (page_words m page)) = omega (arith, whole, size) in
    let place : 1 + at / 4 < PAGE_WORDS = omega arith in
    index-bytes (drop 1 (page_words m page)) at below
    ∙ ap (λ (w : ℕ). slice_index (word_bytes w) (at % 4)) (get_or-drop 1 (page_words m page) (at / 4) 0
    ∙ index-page_words m page (1 + at / 4) place)

-- a block has sixty bytes
pub length-bytes : (ws : List ℕ) → length (flat_map word_bytes ws) ≡ 4 * length ws
length-bytes [] = refl
length-bytes (w ∷ ws) = let rest = length-bytes ws in omega (arith, rest)

pub length-block_bytes : (m : List ℕ) (page : ℕ) → address page PAGE_WORDS ≤ length m
    → length (block_bytes m page) ≡ BLOCK_BYTES
length-block_bytes m page within =
    let whole = length-page_words m page within in
    let size = length-drop 1 (page_words m page) in
    let bytes = length-bytes (drop 1 (page_words m page)) in omega (arith, whole, size, bytes)

-- each byte of some words is below 256
pub word_bytes-bytes : (ws : List ℕ) → All (λ b. b < 256) (flat_map word_bytes ws)
word_bytes-bytes ws i d lt =
    let long = length-bytes ws in
    let family : ℕ → Type 0 = λ b. b < 256 in
    let small : slice_index (word_bytes (slice_index ws (i / 4))) (i % 4) < 256 =
    byte_small (slice_index ws (i / 4)) (i % 4) (omega arith) in
    let is = index-bytes ws i (omega (arith, lt, long)) in
    let same : slice_index_or (flat_map word_bytes ws) i d ≡ slice_index (flat_map word_bytes ws) i =
    get_or_default (flat_map word_bytes ws) i d 0 lt in
    subst family (sym (same ∙ is)) small
  where
    byte_small : (w place : ℕ) → place < 4 → slice_index (word_bytes w) place < 256
    byte_small w zero lt = omega arith
    byte_small w (suc zero) lt = omega arith
    byte_small w (suc (suc zero)) lt = omega arith
    byte_small w (suc (suc (suc zero))) lt = omega arith
    byte_small w (suc (suc (suc (suc place)))) lt = absurd (omega (arith, lt))
