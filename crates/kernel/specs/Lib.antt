pub mod Rules
pub mod Completion
pub mod Numbers
pub mod Witness
