-- Blocks of a store: what calls that read or change them require.
pub mod StoredBlocks
