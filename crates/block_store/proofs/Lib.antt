pub mod Taking
pub mod Giving
pub mod Fills
pub mod Linking
