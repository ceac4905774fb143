-- Boards with the factory card, and boards with the card of an image.
pub mod FactoryBoards
pub mod FlashImages
pub mod Images
