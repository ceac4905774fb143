-- Power-on, the calls of a powered card, and what a refused command leaves. The card itself is defined in card_model,
-- and its commands there and in command_base.
pub mod PausedCards
pub mod Refused
pub mod ShownSessions
pub mod WholeCards
