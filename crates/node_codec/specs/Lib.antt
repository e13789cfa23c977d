pub mod Head
pub mod PairList
