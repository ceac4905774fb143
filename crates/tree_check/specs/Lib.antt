-- The results of the check of a memory, and the steps inside it.
pub mod WalkParts
pub mod Surveys
pub mod SurveyParts
pub mod SumParts
