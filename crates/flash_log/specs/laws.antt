-- Laws of the definitions, with their proofs.
pub mod Beginning
pub mod Ending
pub mod Finding
pub mod GivingUp
pub mod Keeping
pub mod Renewing
pub mod Retrying
pub mod TakingTurns
