pub mod UnitFrames
pub mod UnitStates
pub mod UnitWords
pub mod laws
