pub mod SpareMaps
pub mod SparePlaces
pub mod SpareStates
pub mod laws
