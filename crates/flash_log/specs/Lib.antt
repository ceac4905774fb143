pub mod KeptParts
pub mod Openings
pub mod Renewals
pub mod SlotsInTurn
pub mod StepsLeft
pub mod laws
