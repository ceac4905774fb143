-- Where the words of a chain lie.
use Rattle.std.proofs.Common.{◌≡◌, ◌≢◌, ◌<◌, ◌≤◌, ◌+◌, ◌-◌, ◌*◌, ◌/◌, ◌%◌, ℕ, List, length, slice_index, sym, ap, inl}
use Rattle.std.proofs.Common.{inr, arith, ⊎_elim}
use Rattle.std.proofs.lemmas.Bool.{cases_lt}
use Rattle.std.proofs.lemmas.Bool.Decides.{eqb_tells}
use Rattle.nvm_board.specs.Facts.{address}
use Rattle.block_chain.specs.Counts.{NoneTwice}
use Rattle.block_chain.specs.declared.layout.TheConstants.{BLOCK_WORDS}
use Rattle.block_chain.specs.laws.Counts.{apart}

-- the address of word k of the chain of these blocks
abbrev pub word_address : List ℕ → ℕ → ℕ
word_address ps k = address (slice_index ps (k / BLOCK_WORDS)) (1 + k % BLOCK_WORDS)

-- two words lie apart
pub words-apart : (ps : List ℕ) → NoneTwice ps → (j k : ℕ) → j < BLOCK_WORDS * length ps → k < BLOCK_WORDS * length ps
    → j ≢ k → word_address ps j ≢ word_address ps k
words-apart ps once j k j_in k_in other is =
    let page : slice_index ps (j / BLOCK_WORDS) ≡ slice_index ps (k / BLOCK_WORDS) = omega (arith, is) in
    let place : j % BLOCK_WORDS ≡ k % BLOCK_WORDS = omega (arith, is) in
    let j_block : j / BLOCK_WORDS < length ps = omega (arith, j_in) in
    let k_block : k / BLOCK_WORDS < length ps = omega (arith, k_in) in
    ⊎_elim
    (λ (before : j / BLOCK_WORDS < k / BLOCK_WORDS). apart ps once (j / BLOCK_WORDS) (k / BLOCK_WORDS) before
    k_block page) (λ (from : k / BLOCK_WORDS ≤ j / BLOCK_WORDS). elim (eqb_tells (j / BLOCK_WORDS) (k / BLOCK_WORDS)) [
      | inl same ↦ other (let s = same.1 in let z : j ≡ k = omega (arith, s, place) in z)
      | inr differ ↦
          let less : k / BLOCK_WORDS < j / BLOCK_WORDS = (let d = differ.1 in omega (arith, d, from)) in
          apart ps once (k / BLOCK_WORDS) (j / BLOCK_WORDS) less j_block (sym page)
    ])
    (cases_lt (j / BLOCK_WORDS) (k / BLOCK_WORDS))

-- the word before one that does not begin a block lies before it
pub word-before : (ps : List ℕ) (k : ℕ) → k % BLOCK_WORDS ≢ 0 → word_address ps (k - 1) ≡ word_address ps k - 1
word-before ps k inside =
    let block : (k - 1) / BLOCK_WORDS ≡ k / BLOCK_WORDS = omega (arith, inside) in
    let page = ap (slice_index ps) block in
    omega (arith, page, inside)

-- and the word after one that does not end a block lies behind it
pub word-after : (ps : List ℕ) (k : ℕ) → k % BLOCK_WORDS < 14 → word_address ps (k + 1) ≡ word_address ps k + 1
word-after ps k inside =
    let block : (k + 1) / BLOCK_WORDS ≡ k / BLOCK_WORDS = omega (arith, inside) in
    let page = ap (slice_index ps) block in
    omega (arith, page, inside)
