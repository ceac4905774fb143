pub mod Addresses
pub mod CallLaws
