pub mod Runs
pub mod Puts
pub mod RunCosts
pub mod Places
pub mod Counting
