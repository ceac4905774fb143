-- Slots of records, refusals of calls on bodies, their postconditions, and the device writes of an update.
pub mod Records
pub mod Refusals
pub mod BodyCalls
pub mod UpdateWrites
pub mod laws
