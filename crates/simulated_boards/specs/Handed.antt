-- What a board hands on of its device writes.
use Rattle.std.specs.Prelude.{◌≡◌, Bool, true, false, not, Option, Some, None, is_some}
use Rattle.nvm_board.specs.History.{Log, Run, and_run}

-- the log of a follower, where there is one and its log is known
abbrev pub log_of : {F : Type 0} → (F → Option Log) → Option F → Option Log
log_of log None = None
log_of log (Some follower) = log follower

-- true if there is a follower, and it fell behind
abbrev pub is_behind : {F : Type 0} → (F → Bool) → Option F → Bool
is_behind behind None = false
is_behind behind (Some follower) = behind follower

-- The follower of a board, if it has one, and whether it gets the next write.
pub record FollowerState (F : Type 0) : Type 0 where
  pub follower : Option F
  pub follows : Bool

-- A run is handed on once, behind all those before it. A follower that falls behind at it gets no more. The board keeps
-- its follower, also if that falls behind.
pub record HandsOn {F : Type 0} (log : F → Option Log) (behind : F → Bool) (run : Run) (old new : FollowerState F)
    : Type 0 where
  pub once : old.follows ≡ true → log_of log new.follower ≡ and_run (log_of log old.follower) run
  pub known : old.follows ≡ true → new.follows ≡ not (is_behind behind new.follower)
  pub never : old.follows ≡ false → new ≡ old
  pub stays : is_some new.follower ≡ is_some old.follower
