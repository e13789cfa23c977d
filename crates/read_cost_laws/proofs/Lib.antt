pub mod TouchedLemmas
mod Worked
