pub mod Entries
pub mod Powers
pub mod Migrated
pub mod FactoryPages
pub mod FactoryBlocks
pub mod FactoryTable
pub mod FactoryLemmas
pub mod FactoryFound
