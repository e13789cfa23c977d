pub mod Entry
pub mod Levels
pub mod Stored
