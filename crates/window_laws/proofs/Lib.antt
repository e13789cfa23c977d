pub mod CountLemmas
pub mod WindowLemmas
pub mod StretchLemmas
pub mod SearchLemmas
mod Worked
