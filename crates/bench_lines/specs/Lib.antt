-- Scripts: the order of each line, its spelling, which texts are scripts, what a line prints, and the exit status of
-- each fault. The laws are modules of their own.
pub mod Orders
pub mod OrderViews
pub mod Spellings
pub mod Scripts
pub mod Faults
pub mod Printouts
pub mod laws
