-- The states of a bench, its turns and their runs, and the guess law.
pub mod BenchStates
pub mod CardBlocks
pub mod Guessing
pub mod Lasting
pub mod Plays
pub mod TurnResults
pub mod Turns
pub mod FaultTurns
pub mod NewlyWritten
