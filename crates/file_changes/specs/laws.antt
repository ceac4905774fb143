-- Laws of the definitions, with their proofs.
pub mod Adding
pub mod Allowed
pub mod Creating
pub mod Deleting
pub mod Entering
pub mod EntryWords
pub mod LifeChanges
pub mod Made
pub mod NewEntries
pub mod Parting
pub mod Parts
pub mod Places
pub mod Removals
