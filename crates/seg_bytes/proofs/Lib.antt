pub mod PageCounts
pub mod Runs
pub mod Overwrites
pub mod Reading
pub mod Writing
