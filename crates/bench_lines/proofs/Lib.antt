mod FirstPlace
mod HexLimits
mod PartsTaken
mod Spelled
pub mod Digits
pub mod Written
