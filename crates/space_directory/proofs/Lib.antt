pub mod HeldLaws
pub mod Slotted
pub mod LockedRuns
pub mod Spaces
pub mod Calls
pub mod DirectoryPages
pub mod Opened
pub mod PageLaws
