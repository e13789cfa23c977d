pub mod StayLemmas
pub mod LaidContentLemmas
pub mod WindowContentLemmas
mod Worked
