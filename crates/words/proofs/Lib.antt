pub mod Choice
pub mod Lists
pub mod Filled
pub mod Buffer
pub mod Put
pub mod Known
