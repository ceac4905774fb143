pub mod Disabled
pub mod Allowing
pub mod NamedEntries
