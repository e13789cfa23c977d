pub mod OwnLemmas
pub mod PageTables
pub mod PageLemmas
pub mod KeptLemmas
