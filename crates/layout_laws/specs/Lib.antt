pub mod Merging
pub mod Halving
pub mod Naming
