mod Garbled
pub mod SoundBlocks
pub mod SoundWorlds
pub mod TreeAnswers
pub mod WorldPhases
pub mod WorldSteps
pub mod WorldLawful
pub mod CommandsGiven
