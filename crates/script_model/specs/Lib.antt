pub mod Grammar
pub mod Replies
pub mod Transcript
