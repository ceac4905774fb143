-- What a sweep's command line and script ask for; the cuts that a sweep tries, its runs, and its counts.
pub mod Masks
pub mod Sweeps
pub mod SweptRuns
pub mod Tallies
pub mod PlanParts
pub mod WrittenRuns
pub mod TurnCuts
pub mod Turning
pub mod Framing
pub mod Asking
pub mod PartTexts
pub mod SweepOptions
pub mod ExitStatuses
pub mod SweepEndings
