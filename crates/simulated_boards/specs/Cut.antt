-- The facts of a board that loses power at a chosen write.
use Rattle.std.specs.Prelude.{◌≡◌, ◌+◌, ℕ, List, Option, Some, None, Result, IsOk, IsErr}
use Rattle.std.specs.Prelude.{IsErrOf, true, false, length}
use Rattle.nvm_board.specs.declared.board.Arm.{Arm}
use Rattle.nvm_board.specs.declared.board.DeviceErr.{DeviceErr}
use Rattle.nvm_board.specs.declared.board.DeviceErr.TheVariants.{PowerLost}
use Rattle.simulated_boards.specs.declared.cut_board.CutBoard.{CutBoard}
use Rattle.nvm_board.specs.Facts.{Facts, IsWorn, new_board}
use Rattle.nvm_board.specs.Aims.{due_of}
use Rattle.nvm_board.specs.BoardCalls.{Writes}
use Rattle.simulated_boards.specs.Ram.{ram_facts}
use Rattle.nvm_board.specs.Torn.{IsTornBy}

-- A cut is due while an arm is pending.
abbrev pub cut_facts : CutBoard → Facts
cut_facts b = record (ram_facts b.ram) { due = due_of b.arm; pending = b.arm }

-- A write that no cut falls into. On success `next` is pending. On an error a count was at its end, and the arm is
-- unchanged.
pub record IsSpared {T : Type 0} (next : Option Arm) (old new : Facts) (result : Result T DeviceErr) : Type 0 where
  pub done : IsOk result → new.pending ≡ next
  pub worn : IsErr result → IsWorn old
  pub stays : IsErr result → new.pending ≡ old.pending

-- The write that the cut falls into: power is lost, the write is torn by the mask, and no cut is set any more.
pub record IsCut {T : Type 0} (mask at : ℕ) (run : List ℕ) (old new : Facts) (result : Result T DeviceErr)
    : Type 0 where
  pub lost : IsErrOf result PowerLost
  pub torn : IsTornBy mask old.words at run new.words
  pub spent : new.pending ≡ None

-- The effect of a write on the set cut. On a board without power there is none. On a powered one the cut comes nearer
-- by one write, or falls if no write is left before it.
pub record ArmAfter {T : Type 0} (at : ℕ) (run : List ℕ) (old new : Facts) (result : Result T DeviceErr) : Type 0 where
  pub dark : old.dark ≡ true → new.pending ≡ old.pending
  pub unarmed : old.dark ≡ false → old.pending ≡ None → IsSpared None old new result
  pub before : (left mask : ℕ) → old.dark ≡ false → old.pending ≡ Some (record { whole_writes = left + 1; mask = mask })
      → IsSpared (Some (record { whole_writes = left; mask = mask })) old new result
  pub fires : (mask : ℕ) → old.dark ≡ false → old.pending ≡ Some (record { whole_writes = 0; mask = mask })
      → IsCut mask at run old new result

-- The number of words of the last torn write, 0 before any.
abbrev pub last_torn : CutBoard → ℕ
last_torn b = b.torn_words

-- The effect of a write of `size` words on that number: it becomes `size` if the write is torn, else it is unchanged.
pub record TornAfter (size : ℕ) (old : Facts) (had has : ℕ) : Type 0 where
  pub fires : (mask : ℕ) → old.dark ≡ false → old.pending ≡ Some (record { whole_writes = 0; mask = mask }) → has ≡ size
  pub dark : old.dark ≡ true → has ≡ had
  pub unarmed : old.pending ≡ None → has ≡ had
  pub before : (left mask : ℕ) → old.pending ≡ Some (record { whole_writes = left + 1; mask = mask }) → has ≡ had

-- A write of this run on a board that may have a cut set.
pub record WritesOrTears {T : Type 0} (at : ℕ) (run : List ℕ) (old new : CutBoard) (result : Result T DeviceErr)
    : Type 0 where
  pub writes : Writes at run (cut_facts old) (cut_facts new) result
  pub arm : ArmAfter at run (cut_facts old) (cut_facts new) result
  pub torn_words : TornAfter (length run) (cut_facts old) (last_torn old) (last_torn new)

-- A new board with this number of pages, on which no write was torn.
pub record IsNewCutBoard (pages : ℕ) (b : CutBoard) : Type 0 where
  pub facts : cut_facts b ≡ new_board pages
  pub torn : last_torn b ≡ 0
