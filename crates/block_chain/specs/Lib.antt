-- Blocks: words, chains, the effects of calls, and the layout. Their laws are in a module of their own.
pub mod Counts
pub mod Chains
pub mod Layout
pub mod BlockWords
pub mod ChainChanges
pub mod ChainParts
pub mod laws
