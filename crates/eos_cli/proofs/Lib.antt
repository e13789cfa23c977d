mod PlainLemmas
pub mod StepLemmas
