pub mod ReturningLemmas
pub mod SpaceLemmas
pub mod HeldLemmas
pub mod PartLemmas
pub mod AbandonLemmas
