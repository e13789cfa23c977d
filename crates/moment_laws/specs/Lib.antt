pub mod ByObject
pub mod Change
pub mod Granting
