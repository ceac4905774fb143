pub mod ArmedFlash
pub mod Telling
pub mod WithArm
pub mod WithFault
