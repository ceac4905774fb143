pub mod Sets
pub mod Costs
