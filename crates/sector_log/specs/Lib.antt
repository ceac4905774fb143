pub mod SectorLogs
pub mod SectorOpenings
pub mod laws
