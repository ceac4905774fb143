pub mod Migrating
pub mod MigratingParts
