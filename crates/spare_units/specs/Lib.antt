pub mod MovedSectors
pub mod SpareFrames
pub mod laws
