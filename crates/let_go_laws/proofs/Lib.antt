pub mod LetGoLemmas
mod Worked
