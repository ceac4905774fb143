-- Laws of the definitions, with their proofs.
pub mod Counts
pub mod CutBoards
pub mod Logging
