pub mod Machine
pub mod Next
pub mod Replies
pub mod Runs
pub mod Sound
