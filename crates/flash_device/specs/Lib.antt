pub mod FlashBlocks
pub mod FlashCalls
pub mod FlashLogs
pub mod PageTables
pub mod ProgrammedRuns
pub mod PutRecords
pub mod laws
