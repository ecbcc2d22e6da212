pub mod Answers
pub mod Count
pub mod Work
