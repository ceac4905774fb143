-- Laws of the device writes that put bytes into a chain.
use Rattle.std.proofs.Common.{◌≡◌, ◌≢◌, ◌==◌, ◌⊎◌, ◌≤◌, ◌+◌, ◌-◌, ◌/◌, ◌%◌, ◌||◌, ℕ, zero, suc, Bool, ap, ap₂}
use Rattle.std.proofs.Common.{inl, inr, arith}
use Rattle.std.specs.Prelude.{if◌then◌else◌}
use Rattle.std.proofs.lemmas.Bool.Decides.{eqb_tells}
use Rattle.undo_journal.specs.Spending.{transaction_writes}
use Rattle.undo_journal.specs.declared.batch.TheConstants.{BATCH}
use Rattle.block_chain.specs.declared.layout.TheConstants.{BLOCK_WORDS}
use Rattle.block_chain.specs.ChainChanges.{touched_blocks, touched_words}
use Rattle.chain_bytes.specs.Writes.{begins_run, run_count, put_writes}

-- a word begins a run, or goes on with one
pub data RunAt (first k : ℕ) : Type 0 where
  begins : begins_run first k ≡ 1 → (k % BLOCK_WORDS ≡ 0) ⊎ ((k - first) % BATCH ≡ 0) → RunAt first k
  goes_on : begins_run first k ≡ 0 → k % BLOCK_WORDS ≢ 0 → (k - first) % BATCH ≢ 0 → RunAt first k

pub run_at : (first k : ℕ) → RunAt first k
run_at first k =
    let test : Bool → Bool → ℕ = λ b c. if b || c then 1 else 0 in
    elim (eqb_tells (k % BLOCK_WORDS) 0) [
      | inl block ↦ begins (ap (λ (b : Bool). test b ((k - first) % BATCH == 0)) block.0) (inl block.1)
      | inr inside ↦ elim (eqb_tells ((k - first) % BATCH) 0) [
        | inl batch ↦ begins (ap₂ test inside.0 batch.0) (inr batch.1)
        | inr among ↦ goes_on (ap₂ test inside.0 among.0) inside.1 among.1
      ]
    ]

-- there are no more runs than batches and ends of blocks among the words
run_count-few : (first n : ℕ)
    → run_count first (suc n) + first / BLOCK_WORDS + 1 ≤ (n + 8) / BATCH + (first + n + 15) / BLOCK_WORDS
run_count-few first zero = elim (run_at first (first + 0)) [
  | begins is o ↦ omega (arith, is)
  | goes_on is block batch ↦ omega (arith, is)
]
run_count-few first (suc n) =
    let rest = run_count-few first n in
    elim (run_at first (first + suc n)) [
      | begins is o ↦ elim o [
        | inl block ↦ omega (arith, rest, is, block)
        | inr batch ↦ omega (arith, rest, is, batch)
      ]
      | goes_on is block batch ↦ omega (arith, rest, is)
    ]

words-few : (first words : ℕ) → 1 ≤ words
    → run_count first words + first / BLOCK_WORDS + 1 ≤ (words + 7) / BATCH + (first + words + 14) / BLOCK_WORDS
words-few first zero some = absurd (omega (arith, some))
words-few first (suc n) some =
    let few = run_count-few first n in
    omega (arith, few)

-- so they are no more than a transaction of so many words in so many blocks may make
pub put_writes_most : (offset count : ℕ)
    → put_writes offset count ≤ transaction_writes (touched_words offset count) (touched_blocks offset count)
put_writes_most offset zero = omega arith
put_writes_most offset (suc n) =
    let few = words-few (offset / 4) (touched_words offset (suc n))
    (let some : 1 ≤ touched_words offset (suc n) = omega arith in some) in
    omega (arith, few)
