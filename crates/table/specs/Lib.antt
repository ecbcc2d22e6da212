pub mod Limits
pub mod Paper
pub mod Value
