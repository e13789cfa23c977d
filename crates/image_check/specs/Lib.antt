pub mod Owners
pub mod Verdicts
pub mod Rooms
pub mod Shares
