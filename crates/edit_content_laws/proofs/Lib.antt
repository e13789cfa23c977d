pub mod EditContentLemmas
mod Worked
