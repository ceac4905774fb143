-- Lemmas of the command line, of the words of an image, and of what is refused.
pub mod Images
mod Refused
mod Words
mod FlashRefused
