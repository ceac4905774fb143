pub mod BodyParts
pub mod WayParts
pub mod Parsing
pub mod ParsedCommands
