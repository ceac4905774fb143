-- Creations and deletions: their results and refusals, and the steps inside them.
pub mod Conditions
pub mod Creations
pub mod CreationParts
pub mod DeletionParts
pub mod CreationRefusals
pub mod laws
pub mod Adding
