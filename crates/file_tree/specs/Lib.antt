-- The file tree in a memory: entries, their table, the tree, its changes, names and the index. The laws are in a
-- module of their own.
pub mod States
pub mod Kinds
pub mod Entries
pub mod Table
pub mod TableEnd
pub mod Formats
pub mod MigrationParts
pub mod Trees
pub mod Naming
pub mod Subtrees
pub mod Keys
pub mod Indexes
pub mod IndexParts
pub mod TreeChanges
pub mod TreeParts
pub mod laws
