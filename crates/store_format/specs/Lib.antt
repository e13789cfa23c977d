pub mod Rows
pub mod Writing
pub mod Blank
pub mod Formatting
