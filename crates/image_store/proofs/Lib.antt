pub mod ObjectLemmas
pub mod CatalogLemmas
pub mod SpanLemmas
pub mod ClosingLemmas
pub mod FixedLemmas
