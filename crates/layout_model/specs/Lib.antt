pub mod Parts
pub mod Pack
pub mod Plan
pub mod Levels
pub mod Grants
pub mod Layout
