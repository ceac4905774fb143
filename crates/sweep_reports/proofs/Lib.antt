pub mod Put
pub mod Reported
mod ReportStopped
