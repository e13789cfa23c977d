pub mod SuperLemmas
pub mod EntryLemmas
