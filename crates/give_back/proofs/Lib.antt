pub mod UsesLemmas
pub mod RunLemmas
pub mod LeftLemmas
pub mod LetGoLemmas
pub mod GiveLemmas
pub mod RunsLemmas
