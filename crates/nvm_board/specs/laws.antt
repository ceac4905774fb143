-- Laws of the definitions, with their proofs.
pub mod Aims
pub mod History
pub mod Sizes
pub mod SteadyCalls
pub mod Torn
