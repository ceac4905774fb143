-- Laws of the definitions, with their proofs.
pub mod FrameParts
pub mod MovedWords
pub mod SmallFrames
pub mod UnitCells
