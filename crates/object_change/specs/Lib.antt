pub mod Changed
pub mod Scene
pub mod Steps
pub mod Calls
