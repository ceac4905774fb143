-- Bodies of EFs: in a memory and in a store, their changes, and the postconditions of calls; and the steps inside
-- them. The laws are in a module of their own.
pub mod LinearBodies
pub mod TransparentBodies
pub mod Bodies
pub mod StoredBodies
pub mod RingCalls
pub mod BodyChanges
pub mod ReadParts
pub mod laws
