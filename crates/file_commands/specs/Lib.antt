-- Files as the commands on files find them.
pub mod LifeParts
pub mod FileParts
