pub mod Pages
pub mod Session
pub mod Ties
pub mod Keeping
pub mod Served
pub mod Start
pub mod Ending
pub mod Status
