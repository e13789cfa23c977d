pub mod MovedLaws
mod MovedLemmas
