pub mod Split
pub mod Read
pub mod Write
pub mod Parts
