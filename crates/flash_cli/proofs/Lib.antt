-- Lemmas of the command line.
pub mod GivenWords
