-- Files in a store.
pub mod StoredFiles
pub mod laws
