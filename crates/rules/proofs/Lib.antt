mod Names
mod Rows
mod Tests
