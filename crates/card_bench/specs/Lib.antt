-- What script lines do: the line between both ends, desks, exchanges, and what is printed.
pub mod Charges
pub mod EndsParts
pub mod Prints
pub mod DeskStates
pub mod Exchanges
pub mod ExchangeWorlds
pub mod Lines
pub mod ExchangeValues
pub mod Performing
pub mod ScriptWorlds
pub mod ScriptEndings
pub use Rattle.card_boards.specs.Images
