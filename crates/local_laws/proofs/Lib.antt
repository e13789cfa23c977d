pub mod CutLemmas
pub mod PathLemmas
pub mod LeftLemmas
mod Worked
