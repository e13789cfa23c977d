pub mod Acts
pub mod Calls
pub mod Ending
pub mod Fields
pub mod Replies
pub mod Serving
pub mod Taking
