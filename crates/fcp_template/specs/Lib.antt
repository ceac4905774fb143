pub mod TagParts
pub mod ObjectParts
