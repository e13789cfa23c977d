pub mod Runs
pub mod Levels
pub mod Laws
pub mod Changes
pub mod Bitmaps
pub mod Rows
