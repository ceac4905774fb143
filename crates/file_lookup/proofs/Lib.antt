-- What the answers of several functions use.
mod NameWords
mod SecondWords
