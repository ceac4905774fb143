pub mod SectorPlaces
pub mod SectorSpares
pub mod laws
