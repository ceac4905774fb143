-- What the commands have in common: valid card images, recovery, the session as entry numbers, costs of a command,
-- and the postconditions of a command. The laws are modules of their own.
pub mod Comparing
pub mod Counting
pub mod Standing
pub mod Finding
pub mod Working
pub mod CurrentFiles
pub mod NamedFiles
pub mod TemplateParts
pub mod Stops
pub mod Served
pub mod InPlace
pub mod CommandWrites
pub mod CommitWords
pub mod laws
