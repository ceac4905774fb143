pub mod SectorFacts
pub mod SectorFollowers
pub mod laws
