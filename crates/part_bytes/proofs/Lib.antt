pub mod RunLemmas
pub mod WriteLemmas
pub mod GatherLemmas
pub mod PartsLemmas
