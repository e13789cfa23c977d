pub mod Examples
pub mod NodeLemmas
pub mod PageCountLaws
pub mod RangeLemmas
pub mod TreeLemmas
