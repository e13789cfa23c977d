pub mod Cost
pub mod Loaded
pub mod Search
