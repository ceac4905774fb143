-- Findings of runs, and the number of runs with each.
use Rattle.std.specs.Prelude.{◌≡◌, ◌≢◌, ◌≤◌, ◌+◌, ◌-◌, ◌^◌, ◌⊎◌, ℕ, List, [], ◌∷◌, ◌++◌, Some, map, sum_by}
use Rattle.std.specs.Prelude.{All, AllPairs, slice_get, slice_set}
use Rattle.card_model.specs.declared.space.FreeSpace.{FreeSpace}
use Rattle.bench_turns.specs.declared.turn.Item.{Item}
use Rattle.card_sweeps.specs.declared.tally.Seen.{Seen}
use Rattle.card_sweeps.specs.declared.tally.SweepEnd.{SweepEnd}
use Rattle.card_sweeps.specs.declared.tally.SweepEnd.TheVariants.{Whole, Full, Differs}

-- the finding of a run: the trace of the probe, and the free space before it
pub record Finding : Type 0 where
  pub trace : List Item
  pub free : FreeSpace

abbrev pub finding : Seen → Finding
finding seen = record { trace = seen.trace.items; free = seen.free }

-- the number of runs with this finding
abbrev pub times_seen : Seen → ℕ
times_seen seen = seen.count

abbrev pub findings : List Seen → List Finding
findings seen = map finding seen

-- All findings are different, each has at least one run, and their counts add up to `runs`.
pub record IsTally (runs : ℕ) (seen : List Seen) : Type 0 where
  pub sum : sum_by times_seen seen ≡ runs
  pub given : All (λ s. 1 ≤ s.count) seen
  pub different : AllPairs (λ a b. a ≢ b) (findings seen)

-- Findings were appended, each of which is one of these.
pub record Adds (Is : Finding → Type 0) (old new : List Finding) : Type 0 where
  pub more : List Finding
  pub all : new ≡ old ++ more
  pub each : All Is more

-- this finding is at this index
pub record IsAt (place : ℕ) (given : Finding) (seen : List Seen) : Type 0 where
  pub here : Seen
  pub there : slice_get seen place ≡ Some here
  pub same : finding here ≡ given

-- A run had a known finding, whose count rises by one.
pub record CountsAgain (given : Finding) (old new : List Seen) : Type 0 where
  pub place : ℕ
  pub at : IsAt place given old
  pub set : new ≡ slice_set old place (record at.here { count = at.here.count + 1 })

-- A run had a new finding, which is appended.
pub record CountsFirst (given : Finding) (old new : List Seen) : Type 0 where
  pub first : Seen
  pub same : finding first ≡ given
  pub once : first.count ≡ 1
  pub others : All (λ s. finding s ≢ given) old
  pub pushed : new ≡ old ++ first ∷ []

-- A run with this finding is counted.
abbrev pub CountsOne : Finding → List Seen → List Seen → Type 0
CountsOne given old new = CountsAgain given old new ⊎ CountsFirst given old new

-- runs with these findings are counted, in order
unfoldable pub CountsEach : List Finding → List Seen → List Seen → Type 0
CountsEach [] old new = new ≡ old
CountsEach (given ∷ rest) old new = (between : List Seen) × CountsOne given old between × CountsEach rest between new

-- Runs were counted: all of these, in order.
pub record CountsRuns (Are : List Finding → Type 0) (old new : List Seen) : Type 0 where
  pub runs : List Finding
  pub are : Are runs
  pub each : CountsEach runs old new

-- Runs were counted in order, up to this end: all of them, at the greatest count the first of them, or the first of
-- them up to runs that differ.
abbrev pub CountsToEnd : (Are : List Finding → Type 0) (First : SweepEnd → List Finding → Type 0) → SweepEnd → ℕ
    → List Seen → Type 0
CountsToEnd Are First Whole runs seen = CountsRuns Are [] seen
CountsToEnd Are First Full runs seen = (runs ≡ 2 ^ 32 - 1) × CountsRuns (First Full) [] seen
CountsToEnd Are First Differs runs seen = CountsRuns (First Differs) [] seen
