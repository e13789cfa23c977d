pub mod Counts
pub mod BitLaws
pub mod WordLaws
pub mod RunLaws
pub mod SetLaws
