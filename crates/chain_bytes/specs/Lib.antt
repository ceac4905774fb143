-- The bytes that an update takes, and its device writes.
pub mod Updates
pub mod Writes
pub mod JoinParts
pub mod laws
