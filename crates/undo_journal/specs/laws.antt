-- Laws of the definitions, with their proofs.
pub use Rattle.nvm_board.specs.laws.Torn
pub mod Undo
pub mod Words
pub mod Memory
pub mod Calls
pub mod LastWrites
pub mod Told
pub mod Exits
pub mod Transactions
pub mod Endings
pub mod Waits
pub mod Runs
pub mod Joining
pub mod Naming
