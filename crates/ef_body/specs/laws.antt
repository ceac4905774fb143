-- Laws of the definitions, with their proofs.
pub mod Linears
pub mod Lists
pub mod Rings
