pub mod Lines
pub mod Fits
