-- Laws of the definitions, with their proofs.
pub mod Copying
pub mod Erased
pub mod Holding
pub mod Progressing
pub mod Sectors
pub mod Words
