pub mod HeldPages
pub mod PageCopies
pub mod ProgressParts
pub mod Spares
pub mod laws
