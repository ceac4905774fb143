-- Laws of the definitions, with their proofs.
pub mod Catching
pub mod Lighting
pub mod Losing
pub mod Moving
pub mod Pacing
pub mod Sparing
pub mod Turns
pub mod Writing
