pub mod EditLemmas
pub mod EndsLemmas
pub mod MemoryLemmas
