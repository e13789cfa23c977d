pub mod Version
pub mod Moment
pub mod Edit
pub mod Run
pub mod Costs
