pub mod StepLemmas
mod UsageLemmas
mod WordLemmas
