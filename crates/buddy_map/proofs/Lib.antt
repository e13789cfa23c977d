pub mod Meaning
pub mod Mending
pub mod Descent
