pub mod RowLemmas
pub mod AskingLemmas
pub mod PartLemmas
