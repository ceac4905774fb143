-- Laws of the definitions, with their proofs.
pub mod Finding
pub mod Indexing
pub mod Marks
pub mod Putting
pub mod Rising
