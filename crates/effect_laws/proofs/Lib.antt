pub mod EffectLemmas
mod Worked
