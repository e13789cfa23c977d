pub mod UnderLemmas
pub mod DownLemmas
pub mod ShapeLemmas
pub mod CountLemmas
pub mod FrameLemmas
pub mod UpLemmas
pub mod TreeLemmas
mod Worked
