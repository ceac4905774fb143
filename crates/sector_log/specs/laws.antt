-- Laws of the definitions, with their proofs.
pub mod Reading
pub mod Recording
pub mod SectorRenewal
pub mod Trying
