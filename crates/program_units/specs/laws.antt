-- Laws of the definitions, with their proofs.
pub mod BlankRuns
pub mod SmallUnits
pub mod UnitImages
pub mod UnitPlaces
pub mod UnitRuns
pub mod UnitSharing
pub mod UnitSteps
