pub mod Uses
pub mod Steps
pub mod Replied
pub mod Moved
pub mod Storing
