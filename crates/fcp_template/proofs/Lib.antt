pub mod Splitting
pub mod OneReading
pub mod ReadAgain
pub mod AnyOrder
pub mod FirstObjects
pub mod Repeats
