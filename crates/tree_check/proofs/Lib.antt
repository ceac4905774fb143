pub mod Following
pub mod ChainEnds
pub mod LaidEnds
