-- The device writes of a board: the runs of words that it wrote, and the log of the last ones.
use Rattle.std.specs.Prelude.{◌+◌, ◌-◌, ◌%◌, ◌^◌, ◌++◌, ℕ, List, [], ◌∷◌, Option, Some, None, drop, length}
use Rattle.std.specs.Prelude.{slice_range, slice_set}

-- Words, from an address on.
pub record Run : Type 0 where
  pub at : ℕ
  pub words : List ℕ

-- The last runs that were written, the oldest first, at most as many as there is room for, and the number of all,
-- modulo 2^64.
pub record Log : Type 0 where
  pub runs : List Run
  pub room : ℕ
  pub count : ℕ

-- The last runs of a list, at most so many.
abbrev pub last_runs : ℕ → List Run → List Run
last_runs room runs = drop (length runs - room) runs

-- A log with one run more, in place of the oldest one if it is full.
abbrev pub logged : Log → Run → Log
logged log run = record {
  runs = last_runs log.room (log.runs ++ run ∷ []);
  room = log.room;
  count = (log.count + 1) % 2 ^ 64;
}

-- The same, where there is a log.
abbrev pub and_run : Option Log → Run → Option Log
and_run None run = None
and_run (Some log) run = Some (logged log run)

-- The log after these runs, in order.
abbrev pub and_runs : Option Log → List Run → Option Log
and_runs log [] = log
and_runs log (run ∷ runs) = and_runs (and_run log run) runs

-- The words after a whole write of the run from this address on.
abbrev pub written : List ℕ → ℕ → List ℕ → List ℕ
written m at [] = m
written m at (w ∷ run) = written (slice_set m at w) (at + 1) run

-- The words after these runs are written, in order.
abbrev pub replayed : List ℕ → List Run → List ℕ
replayed words [] = words
replayed words (run ∷ runs) = replayed (written words run.at run.words) runs

-- The run of so many words, from an address on, of a memory.
abbrev pub run_in : List ℕ → ℕ → ℕ → Run
run_in words at size = record { at = at; words = slice_range words at (at + size) }
