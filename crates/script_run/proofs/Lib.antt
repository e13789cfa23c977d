mod CountLemmas
pub mod EndsLaws
pub mod FailureLemmas
pub mod HeadlineLemmas
mod LineLemmas
mod ServedLemmas
