pub mod SideLemmas
pub mod PlanLemmas
pub mod SpellingLemmas
