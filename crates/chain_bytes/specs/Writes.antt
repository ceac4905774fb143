-- The device writes of an update of a chain's bytes in a transaction of its own. Each touched word is set once, in
-- the order of the chain. A batch of eight sets takes one write for its pairs, one for the gate, and one for each run
-- of words. The commit takes one more.
use Rattle.std.specs.Prelude.{◌≡◌, ◌==◌, ◌<◌, ◌+◌, ◌-◌, ◌*◌, ◌/◌, ◌%◌, ◌||◌, ℕ, zero, suc, if◌then◌else◌, length, None}
use Rattle.nvm_board.specs.Facts.{address}
use Rattle.undo_journal.specs.declared.batch.TheConstants.{BATCH}
use Rattle.undo_journal.specs.Batches.{look_up}
use Rattle.undo_journal.specs.Memory.{Memory, taken}
use Rattle.undo_journal.specs.laws.Waits.{AreAscending}
use Rattle.block_chain.specs.declared.layout.TheConstants.{BLOCK_WORDS, FIRST_BLOCK_PAGE, WORD_BYTES}
use Rattle.block_chain.specs.ChainChanges.{touched_words}

-- 1 if word k of a chain begins a run, else 0. It does so at the start of a block, and at the start of a batch of the
-- words from `first` on.
abbrev pub begins_run : ℕ → ℕ → ℕ
begins_run first k = if (k % BLOCK_WORDS == 0) || ((k - first) % BATCH == 0) then 1 else 0

-- The number of runs of n words from `first` on.
abbrev pub run_count : ℕ → ℕ → ℕ
run_count first zero = 0
run_count first (suc n) = run_count first n + begins_run first (first + n)

-- The number of batches of n words.
abbrev pub batch_count : ℕ → ℕ
batch_count n = (n + BATCH - 1) / BATCH

-- The device writes of n words from `first` on, without the commit.
abbrev pub word_writes : ℕ → ℕ → ℕ
word_writes first n = 2 * batch_count n + run_count first n

-- The device writes of an update with its commit: none without bytes.
abbrev pub put_writes : ℕ → ℕ → ℕ
put_writes offset zero = 0
put_writes offset (suc n) = word_writes (offset / WORD_BYTES) (touched_words offset (suc n)) + 1

-- A transaction that has set n words of a chain, and no others: those of the last batch wait that isn't full. All are
-- words of blocks.
pub record WaitInBlocks (n : ℕ) (m : Memory) : Type 0 where
  pub takes : taken m ≡ n
  pub last : length m.waiting ≡ n % BATCH
  pub ascending : AreAscending 0 m.waiting
  pub blocks : (at : ℕ) → at < address FIRST_BLOCK_PAGE 0 → look_up at m.waiting ≡ None
