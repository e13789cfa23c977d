pub mod ReplyLemmas
mod Worked
