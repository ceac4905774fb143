-- Laws of the definitions, with their proofs.
pub mod Blocks
pub mod CardRows
pub mod ReaderRows
pub mod ReaderBusy
pub mod SequenceNumbers
