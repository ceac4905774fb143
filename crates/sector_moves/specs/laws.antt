-- Laws of the definitions, with their proofs.
pub mod Filling
pub mod Keeping
pub mod Passing
pub mod Sizing
pub mod Stepping
pub mod Tracing
