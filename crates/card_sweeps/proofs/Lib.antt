pub mod TallyLemmas
pub mod CompleteSweeps
pub mod FirstRuns
pub mod SweepLemmas
pub mod StageLemmas
pub mod SparedLemmas
pub mod OtherMasks
mod MaskedCuts
pub mod Turned
mod ReadSo
pub mod Stopped
mod SweepWords
pub mod NewWords
pub mod Addresses
pub mod Ended
pub mod KnownCuts
