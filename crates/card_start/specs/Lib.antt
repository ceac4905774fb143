-- Power-on, the state of a powered card, and the factory image. The card itself is defined in card_model.
pub mod Factory
pub mod Starting
pub mod Running
pub mod StartFaults
pub mod StartParts
pub mod CardSurveys
