pub mod History
pub mod Facts
pub mod Aims
pub mod Torn
pub mod BoardCalls
pub mod laws
