pub mod PartCostLemmas
pub mod RunCostLemmas
pub mod NodeCostLemmas
pub mod CheapLemmas
pub mod MetLemmas
mod Worked
pub mod PagesUsed
