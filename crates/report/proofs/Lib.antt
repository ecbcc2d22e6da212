pub mod Fits
pub mod Tables
