pub mod Window
pub mod Searches
