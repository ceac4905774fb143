-- The device writes of a record's bytes and of the entry's word behind them, in a transaction of their own.
use Rattle.std.proofs.Common.{◌≡◌, ◌≢◌, ◌⊎◌, ◌<◌, ◌≤◌, ◌+◌, ◌-◌, ◌%◌, ℕ, zero, suc, [], length, inl, inr, ap}
use Rattle.std.proofs.Common.{arith, None, Bool, refl}
use Rattle.std.proofs.lemmas.Bool.Decides.{eqb_tells}
use Rattle.std.proofs.lemmas.List.{nil_from_length}
use Rattle.std.specs.Prelude.{◌==◌, if◌then◌else◌}
use Rattle.nvm_board.specs.declared.board.TheConstants.{PAGE_WORDS}
use Rattle.undo_journal.specs.declared.batch.TheConstants.{BATCH}
use Rattle.undo_journal.specs.declared.batch.Waiting.{Waiting}
use Rattle.undo_journal.specs.declared.layout.TheConstants.{GATE}
use Rattle.undo_journal.specs.Batches.{batch_writes, look_up}
use Rattle.undo_journal.specs.Memory.{Memory, Joins, commit_writes, spent, taken}
use Rattle.undo_journal.specs.laws.Joining.{commit_of_some, joins-first, joins-begins, joins-takes}
use Rattle.block_chain.specs.ChainChanges.{touched_words}
use Rattle.chain_bytes.specs.Writes.{put_writes, WaitInBlocks}
use Rattle.block_chain.specs.laws.Overwriting.{touched}
use Rattle.ef_body.specs.BodyChanges.{record_put_writes}

module _ (set : Waiting) (low : set.at < GATE) (n : ℕ) (mid new : Memory) (waits : WaitInBlocks n mid)
    (joins : Joins set mid new) where
  free : look_up set.at mid.waiting ≡ None
  free = waits.blocks set.at (omega (arith, low))

  free-behind : look_up (set.at + 1) mid.waiting ≡ None
  free-behind = waits.blocks (set.at + 1) (omega (arith, low))

  takes-one : taken new ≡ n + 1
  takes-one =
      let one = joins-takes set mid new joins waits.ascending free free-behind in omega (arith, one, waits.takes)

  commits-both : commit_writes new ≡ batch_writes new.waiting + 1
  commits-both = commit_of_some new (let some : 1 ≤ taken new = omega (arith, takes-one) in some)

  -- it lies before all that waits, and no word waits before it
  apart : (set.at % PAGE_WORDS ≡ 0) ⊎ ((0 ≢ set.at) × (look_up (set.at - 1) mid.waiting ≡ None))
  apart = elim (eqb_tells set.at 0) [
    | inl first ↦ inl (let z : set.at % PAGE_WORDS ≡ 0 = omega (arith, first.1) in z)
    | inr other ↦
        let differs : set.at ≢ 0 = other.1 in
        inr (
          (let z : 0 ≢ set.at = omega (arith, differs) in z),
          waits.blocks (set.at - 1) (omega (arith, low)),
        )
  ]

  -- the first of a batch
  spends-first : n % BATCH ≡ 0 → spent new ≡ mid.facts.writes + 3
  spends-first batch =
      let none : mid.waiting ≡ [] = nil_from_length mid.waiting
      (let z : length mid.waiting ≡ 0 = omega (arith, waits.last, batch) in z) in
      omega (arith, joins-first set mid new joins none, ap batch_writes none)

  -- one more run of a batch
  spends-run : n % BATCH ≢ 0 → spent new ≡ spent mid + 1
  spends-run among =
      let some : 1 ≤ length mid.waiting = omega (arith, waits.last, among) in
      joins-begins set mid new joins waits.ascending free free-behind some apart

  -- without bytes the entry's word alone is set
  alone : n ≡ 0 → (old : Memory) → mid.facts.writes + commit_writes mid ≡ old.facts.writes
      → new.facts.writes + commit_writes new ≡ old.facts.writes + 4
  alone none old counts =
      let nothing : taken mid ≡ 0 = omega (arith, waits.takes, none) in
      let commit = ap (λ (k : ℕ). if k == 0 then 0 else batch_writes mid.waiting + 1) nothing in
      let first = spends-first (let z : n % BATCH ≡ 0 = omega (arith, none) in z) in
      omega (arith, counts, commit, first, commits-both)

  -- behind some words
  behind : 1 ≤ n → (old : Memory) → (count : ℕ) → mid.facts.writes + commit_writes mid ≡ old.facts.writes + count
      → new.facts.writes + commit_writes new ≡ old.facts.writes + (if n % BATCH == 0 then count + 3 else count + 1)
  behind some old count counts =
      let commit = commit_of_some mid (let z : 1 ≤ taken mid = omega (arith, waits.takes, some) in z) in
      elim (eqb_tells (n % BATCH) 0) [
        | inl batch ↦
            let test = ap (λ (b : Bool). if b then count + 3 else count + 1) batch.0 in
            let none : mid.waiting ≡ [] = nil_from_length mid.waiting
            (let z : length mid.waiting ≡ 0 = omega (arith, waits.last, batch.1) in z) in
            omega (arith, counts, commit, spends-first batch.1, ap batch_writes none, commits-both, test)
        | inr among ↦
            let test = ap (λ (b : Bool). if b then count + 3 else count + 1) among.0 in
            omega (arith, counts, commit, spends-run among.1, commits-both, test)
      ]

-- The record's bytes, then the entry's word.
pub record-counted : (offset count : ℕ) (set : Waiting) (old mid new : Memory) → set.at < GATE
    → mid.facts.writes + commit_writes mid ≡ old.facts.writes + put_writes offset count
    → WaitInBlocks (touched_words offset count) mid → Joins set mid new
    → new.facts.writes + commit_writes new ≡ old.facts.writes + record_put_writes offset count
record-counted offset zero set old mid new low counts waits joins =
    omega (arith, alone set low (touched_words offset 0) mid new waits joins refl old (omega (arith, counts)))
record-counted offset (suc n) set old mid new low counts waits joins =
    let size = touched offset (suc n) (let one : 1 ≤ suc n = omega arith in one) in
    let words = touched_words offset (suc n) in
    let puts = put_writes offset (suc n) in
    let some : 1 ≤ words = omega (arith, size) in
    let all = behind set low words mid new waits joins some old puts counts in
    elim (eqb_tells (words % BATCH) 0) [
      | inl batch ↦
          let test = ap (λ (b : Bool). if b then puts + 3 else puts + 1) batch.0 in
          let full : words % BATCH ≡ 0 = batch.1 in
          omega (arith, all, test, full)
      | inr among ↦
          let test = ap (λ (b : Bool). if b then puts + 3 else puts + 1) among.0 in
          let rest : words % BATCH ≢ 0 = among.1 in
          omega (arith, all, test, rest)
    ]
