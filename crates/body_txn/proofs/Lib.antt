pub mod ActLemmas
pub mod EndingLemmas
mod LettingGoLemmas
mod NotedLemmas
mod PlaceLemmas
pub mod ServingLemmas
mod TakingLemmas
mod WantLemmas
