-- Consequences of the definitions, for the proofs of this crate and of the crates above it.
pub mod PinPages
pub mod AllPins
pub mod Tries
