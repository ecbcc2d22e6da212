pub mod Witness
pub mod Legal
pub mod Ended
