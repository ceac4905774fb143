pub mod Printing
pub mod DeviceWrites
pub mod Reporting
pub mod ReportEndings
pub mod ReportParts
