pub mod Demands
pub mod Cases
pub mod Places
