-- The guess law (ISO/IEC 7816-4, clause 11, basic security handling). In any run, whatever loses power or fails,
-- a comparison of a secret uses up a try, and only a match resets the tries.
use Rattle.std.specs.Prelude.{◌≡◌, ◌⊎◌, ◌≤◌, ◌+◌, ◌*◌, ℕ, List, length, slice_index, take}
use Rattle.nvm_board.specs.Aims.{WritesRuns}
use Rattle.nvm_board.specs.History.{Run, replayed}
use Rattle.card_model.specs.declared.pins.TheConstants.{PINS}
use Rattle.card_model.specs.declared.limits.TheConstants.{TRIES, UNBLOCKING_TRIES}
use Rattle.card_model.specs.PinCommands.{pin_of, unblocking_of, value_of}
use Rattle.command_base.specs.Comparing.{Comparisons, comparisons}
use Rattle.command_base.specs.Finding.{HasCard}
use Rattle.bench_turns.specs.BenchStates.{BenchState, bench_card, bench_facts, off}

-- the counts of a secret: its comparisons, its tries left, and the matches that reset its tries
pub record Guessed : Type 0 where
  pub compares : ℕ
  pub tries : ℕ
  pub renewals : ℕ

-- of the value of PIN n; its own matches and those of its unblocking value reset its tries
abbrev pub value_guessed : BenchState → ℕ → Guessed
value_guessed b n = record {
  compares = slice_index (bench_facts b).compares (value_of n);
  tries = (pin_of (bench_card b) n).tries;
  renewals = slice_index (bench_facts b).matches (value_of n) + slice_index (bench_facts b).matches (unblocking_of n);
}

-- of the unblocking value of PIN n; only its own matches reset its tries
abbrev pub unblocking_guessed : BenchState → ℕ → Guessed
unblocking_guessed b n = record {
  compares = slice_index (bench_facts b).compares (unblocking_of n);
  tries = (pin_of (bench_card b) n).unblocking_tries;
  renewals = slice_index (bench_facts b).matches (unblocking_of n);
}

-- From old to new, the comparisons are at most the tries before, minus the tries after, plus all tries for each reset.
-- Natural numbers can't be negative, so the subtracted terms are on the other side.
abbrev pub ArePaidBy : ℕ → Guessed → Guessed → Type 0
ArePaidBy all old new = new.compares + new.tries + all * old.renewals ≤ old.compares + old.tries + all * new.renewals

-- from one state of a bench to a later one, for both secrets of each PIN, 1 to 8
pub record GuessesFew (old new : BenchState) : Type 0 where
  pub values : (n : ℕ) → 1 ≤ n → n ≤ PINS → ArePaidBy TRIES (value_guessed old n) (value_guessed new n)
  pub unblocking_values : (n : ℕ) → 1 ≤ n → n ≤ PINS
      → ArePaidBy UNBLOCKING_TRIES (unblocking_guessed old n) (unblocking_guessed new n)

-- The guess law of a stored memory: it holds from a state of the bench to these words, with these comparisons counted.
abbrev pub PaysFor : BenchState → List ℕ → Comparisons → Type 0
PaysFor old image made = GuessesFew old
    (off (record (bench_facts old) { words = image; compares = made.compares; matches = made.matches }))

-- Power-on with this memory finds a card, and the memory pays for these comparisons.
pub record ImagePays (old : BenchState) (image : List ℕ) (made : Comparisons) : Type 0 where
  pub has_card : HasCard image
  pub pays : PaysFor old image made

-- There are device writes, and for each `k` from 1 on the memory with the first `k` of them pays for these comparisons.
pub record EachWritePays (old : BenchState) (runs : List Run) (made : Comparisons) : Type 0 where
  pub some : 1 ≤ length runs
  pub each : (k : ℕ) → 1 ≤ k → k ≤ length runs
      → ImagePays old (replayed (bench_facts old).words (take k runs)) made

-- Nothing was compared, or the memory pays for all comparisons from the first device write on: after that write, after
-- each later one, and at the end.
pub record PaysAhead (old new : BenchState) : Type 0 where
  pub wrote : WritesRuns (bench_facts old) (bench_facts new)
  pub paid : (comparisons (bench_facts new) ≡ comparisons (bench_facts old))
      ⊎ EachWritePays old wrote.runs (comparisons (bench_facts new))
