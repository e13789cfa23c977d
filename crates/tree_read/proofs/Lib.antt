pub mod ChildLemmas
pub mod TreeLemmas
pub mod CacheLemmas
pub mod CoverLemmas
pub mod MeterLemmas
pub mod LevelLemmas
pub mod HeldLemmas
