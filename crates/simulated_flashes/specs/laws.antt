-- Laws of the definitions, with their proofs.
pub mod EvenLaws
