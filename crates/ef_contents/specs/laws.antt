-- Laws of the definitions, with their proofs.
pub mod Buffers
pub mod Calling
pub mod Refusing
pub mod Slots
pub mod Updates
