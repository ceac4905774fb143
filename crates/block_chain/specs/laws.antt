-- Consequences of the definitions, for the proofs of this crate and of the crates above it.
pub mod Bytes
pub mod Chains
pub mod Counts
pub mod Extents
pub mod Filling
pub mod Footprints
pub mod Joining
pub mod Laying
pub mod Lengthening
pub mod Overwriting
pub mod Relaying
pub mod Walking
pub mod Words
