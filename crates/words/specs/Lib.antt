pub mod Choice
pub mod Lists
pub mod Buffer
pub mod Spelled
