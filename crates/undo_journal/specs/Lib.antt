pub use Rattle.nvm_board.specs.Facts
pub use Rattle.nvm_board.specs.Torn
pub use Rattle.nvm_board.specs.declared.board.TheConstants
pub use Rattle.nvm_board.specs.declared.board.DeviceErr
pub use Rattle.nvm_board.specs.declared.board.Arm
pub use Rattle.undo_journal.specs.laws.Undo as UndoLaws
pub use Rattle.undo_journal.specs.laws.Memory as MemoryLaws
pub mod Undo
pub mod Spending
pub mod Batches
pub mod Memory
pub mod Rooms
pub mod Commits
pub mod Endings
pub mod BatchParts
pub mod Lent
pub mod JournalParts
pub mod StoreCalls
pub mod laws
pub mod Wiping
pub mod ClearingParts
