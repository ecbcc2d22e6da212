pub mod Values
pub mod Counting
pub mod Steps
pub mod Split
pub mod Tables
pub mod Bounds
