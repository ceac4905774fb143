pub mod Blocks
pub mod CardFields
pub mod CardTable
pub mod CutParts
pub mod EndParts
pub mod Garbled
pub mod ReaderFields
pub mod ReaderTable
pub mod SequenceNumbers
pub mod SpokenParts
pub mod TreeMachine
pub mod WorldLaw
pub mod WorldRepairs
pub mod Worlds
pub mod laws
pub use Rattle.t1_link.specs.laws.Blocks as BlockLaws
pub use Rattle.t1_link.specs.laws.CardRows
pub use Rattle.t1_link.specs.laws.ReaderRows
