pub mod Boundary
pub mod Parts
