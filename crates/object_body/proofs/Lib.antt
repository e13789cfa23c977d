pub mod LengthLemmas
pub mod MoveLemmas
pub mod MemoryLemmas
pub mod CallLemmas
pub mod TurnLemmas
pub mod HeldTreeLemmas
