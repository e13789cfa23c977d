pub mod ActLemmas
pub mod EndingLemmas
pub mod HalfwayLemmas
pub mod HeldLemmas
pub mod LettingGoLemmas
pub mod ServingLemmas
mod TakingLemmas
mod TestSessionLemmas
