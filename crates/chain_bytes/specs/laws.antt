-- Laws of the definitions, with their proofs.
pub mod Writes
pub mod Touching
pub mod Keeping
