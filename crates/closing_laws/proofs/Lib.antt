pub mod CatalogLemmas
pub mod EntryLemmas
pub mod ClosedLemmas
pub mod ShownLemmas
mod Worked
