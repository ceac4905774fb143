pub mod FlashFacts
pub mod FlashFollowers
pub mod laws
