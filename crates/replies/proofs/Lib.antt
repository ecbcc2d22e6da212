pub mod Fits
pub mod Laws
