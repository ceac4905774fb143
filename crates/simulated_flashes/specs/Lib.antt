-- Simulated flashes: their sectors, their states, and those of their followers.
pub mod Complements
pub mod EvenSectors
pub mod GarblingStates
pub mod KeptFlashes
pub mod laws
