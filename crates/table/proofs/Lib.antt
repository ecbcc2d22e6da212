pub mod Rows
pub mod Rules
pub mod Used
