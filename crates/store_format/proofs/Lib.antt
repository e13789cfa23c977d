pub mod RowLemmas
pub mod WritingLemmas
pub mod BlankLemmas
pub mod FormatLemmas
