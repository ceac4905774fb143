-- The program's command line: its words, what they ask for, the boards for it, and why there is none.
pub mod AskedBoards
pub mod BoardStatuses
pub mod CommandLines
pub mod ImageParts
pub mod FileRefusals
pub mod FlashFiles
pub mod SweptParts
