pub mod Paces
pub mod Places
pub mod Rings
pub mod laws
