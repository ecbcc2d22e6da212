pub mod Laws
pub mod Mirror
pub mod Plan
pub mod Link
pub mod Completions
pub mod Safe
