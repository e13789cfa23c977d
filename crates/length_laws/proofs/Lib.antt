pub mod LengthLemmas
mod Worked
