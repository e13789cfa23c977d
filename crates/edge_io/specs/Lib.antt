pub mod Moved
pub mod Doubles
