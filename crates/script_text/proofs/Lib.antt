pub mod Choices
pub mod CommandLemmas
pub mod LineLemmas
pub mod NumberLemmas
pub mod PayloadLemmas
pub mod SentLemmas
pub mod WordLemmas
pub mod MemoryLemmas
