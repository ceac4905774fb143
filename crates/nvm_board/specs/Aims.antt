-- The write that a set cut falls into.
use Rattle.std.specs.Prelude.{◌≡◌, ◌⊎◌, ◌+◌, ◌<◌, ◌≤◌, ◌==◌, ℕ, true, if◌then◌else◌, Option, None, Some, option_map}
use Rattle.std.specs.Prelude.{is_some, IfSome, All, List, [], ◌∷◌, ◌++◌, length}
use Rattle.nvm_board.specs.declared.board.Arm.{Arm}
use Rattle.nvm_board.specs.declared.board.TheConstants.{PAGE_WORDS}
use Rattle.nvm_board.specs.Facts.{Facts}
use Rattle.nvm_board.specs.History.{Run, and_runs, replayed, run_in}
use Rattle.nvm_board.specs.Torn.{IsTornBy}

-- The write that a cut falls into, counted from 1 at the board's first write, and the mask of the cut. The contract
-- of an armed board says which words are torn.
pub record Aim : Type 0 where
  pub write : ℕ
  pub mask : ℕ

-- The number of cuts due of an arm on a board without faults.
abbrev pub due_of : Option Arm → ℕ
due_of arm = if is_some arm then 1 else 0

-- No fault is counted, and a cut is due if and only if one is set.
pub record HasNoFault (f : Facts) : Type 0 where
  pub faults : f.faults ≡ 0
  pub due : f.due ≡ due_of f.pending

-- The write that the set cut falls into, after the whole writes that come before it. An arm without a cut due sets
-- none.
abbrev pub aim : Facts → Option Aim
aim f = if f.due == 0 then None else
    option_map (λ arm. record { write = f.writes + arm.whole_writes + 1; mask = arm.mask }) f.pending

-- The cut fell: power is off and no cut is set. All writes before its write are counted, and its own may be.
pub record HasFallen (old new : Facts) : Type 0 where
  pub dark : new.dark ≡ true
  pub none : aim new ≡ None
  pub there : IfSome (aim old) (λ a. (new.writes + 1 ≡ a.write) ⊎ (new.writes ≡ a.write))

-- The set cut falls into the same write as before, or it fell.
abbrev pub KeepsAim : Facts → Facts → Type 0
KeepsAim old new = (aim new ≡ aim old) ⊎ HasFallen old new

-- The number of events that the board has counted: device writes, power losses and faults.
abbrev pub events : Facts → ℕ
events f = f.writes + f.cuts + f.faults

-- The board wrote runs, in order. The words have them put in, the log has them behind the earlier ones, and each is a
-- counted event.
pub record WritesRuns (old new : Facts) : Type 0 where
  pub runs : List Run
  pub words : new.words ≡ replayed old.words runs
  pub log : new.log ≡ and_runs old.log runs
  pub counted : events old + length runs ≤ events new

-- No run has more words than a page.
abbrev pub FitPages : List Run → Type 0
FitPages runs = All (λ run. length run.words ≤ PAGE_WORDS) runs

-- The cut fell into the last of these runs. Exactly the words of the mask are new in it, after all runs before it. If
-- no fault is counted, those are no more than the writes before the cut.
pub record IsTornLast (cut : Aim) (old new : Facts) (runs : List Run) : Type 0 where
  pub earlier : List Run
  pub at : ℕ
  pub run : List ℕ
  pub all : runs ≡ earlier ++ run_in new.words at (length run) ∷ []
  pub torn : IsTornBy cut.mask (replayed old.words earlier) at run new.words
  pub before : events old + length earlier + 1 < cut.write + new.cuts + new.faults

-- If the set cut fell, on a board whose cuts leave the words of their masks, it fell into the last of these runs.
abbrev pub TearsLast : Facts → Facts → List Run → Type 0
TearsLast old new runs = old.masks ≡ true → (cut : Aim) → aim old ≡ Some cut → aim new ≡ None
    → IsTornLast cut old new runs

-- A read or a comparison doesn't change the aim, takes no event back, and is not logged. A board without power is
-- unchanged.
pub record AimStays (old new : Facts) : Type 0 where
  pub off : old.dark ≡ true → new ≡ old
  pub masks : new.masks ≡ old.masks
  pub aim : aim new ≡ aim old
  pub more : events old ≤ events new
  pub log : new.log ≡ old.log

-- The cut falls into the very next write, of this run. If a cut leaves the words of its mask, exactly those are new.
pub record FallsNext (at : ℕ) (run : List ℕ) (old new : Facts) : Type 0 where
  pub dark : new.dark ≡ true
  pub none : aim new ≡ None
  pub cut : Aim
  pub was : aim old ≡ Some cut
  pub next : old.writes + 1 ≡ cut.write
  pub masked : old.masks ≡ true → IsTornBy cut.mask old.words at run new.words

-- A write of a run leaves the aim as it is, or it is the one that the cut falls into. A board without power is
-- unchanged.
pub record AimsAtWrite (at : ℕ) (run : List ℕ) (old new : Facts) : Type 0 where
  pub off : old.dark ≡ true → new ≡ old
  pub masks : new.masks ≡ old.masks
  pub cut : (aim new ≡ aim old) ⊎ FallsNext at run old new

-- Any calls on a board leave the aim as it is, until the cut falls. They take no event back, and words change only if
-- an event is counted, by the runs that the board wrote, each within a page. The cut falls into the last of these. A
-- board without power is unchanged.
pub record AimsOn (old new : Facts) : Type 0 where
  pub off : old.dark ≡ true → new ≡ old
  pub masks : new.masks ≡ old.masks
  pub cut : KeepsAim old new
  pub more : events old ≤ events new
  pub still : events new ≡ events old → new.words ≡ old.words
  pub wrote : WritesRuns old new
  pub pages : FitPages wrote.runs
  pub torn : TearsLast old new wrote.runs
