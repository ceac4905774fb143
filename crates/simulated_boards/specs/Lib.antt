-- Simulated boards: their facts, their power cuts, their faults, and what a follower is handed.
pub mod Ram
pub mod Given
pub mod Cut
pub mod CutFlashFacts
pub mod Faulty
pub mod Handed
pub mod Kept
pub mod laws
