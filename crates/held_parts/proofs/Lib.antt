pub mod HeldLemmas
pub mod NodeLemmas
pub mod SpaceLemmas
pub mod AskLemmas
pub mod EntryLemmas
