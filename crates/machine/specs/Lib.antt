pub mod Run
pub mod Tick
pub mod Noted
pub mod Safe
pub mod Queue
