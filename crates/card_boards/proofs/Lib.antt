mod FormatLemmas
mod NewBoards
mod BlankFlash
mod FlashReading
