pub mod Ending
pub mod Served
pub mod Session
pub mod Start
pub mod Ties
