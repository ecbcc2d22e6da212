pub mod Fixed
pub mod Figures
