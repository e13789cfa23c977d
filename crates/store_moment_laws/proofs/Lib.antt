pub mod FirstLemmas
pub mod EachLemmas
pub mod CountLemmas
mod Worked
