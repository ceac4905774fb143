pub mod Comparisons
pub mod PinCards
pub mod Attempts
