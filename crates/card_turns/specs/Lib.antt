pub mod BenchViews
pub mod FlashRuns
pub mod PausedLinks
