-- The command line of the bench on a flash.
pub mod GivenParts
pub mod SeedWords
