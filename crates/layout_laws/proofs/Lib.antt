pub mod MergingLemmas
pub mod HalvingLemmas
pub mod LevelLemmas
pub mod NamingLemmas
