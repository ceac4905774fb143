-- Laws of the definitions, with their proofs.
pub mod SmallSpares
pub mod SpareImages
pub mod SpareParts
pub mod SpareSteps
pub mod SpareTurns
