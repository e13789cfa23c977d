pub mod Holding
pub mod Spaces
pub mod Asking
pub mod Entries
