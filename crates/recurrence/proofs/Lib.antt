pub mod Arrivals
pub mod Recurrence
pub mod Rows
pub mod Verdicts
