pub mod BitFacts
pub mod Places
