pub mod Trace
pub mod Rest
pub mod Grants
pub mod Solo
pub mod Parts
