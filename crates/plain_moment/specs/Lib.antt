pub mod Effects
pub mod Testing
pub mod Holders
pub mod Stored
