pub mod AnswerLemmas
pub mod LengthLemmas
pub mod SoundLemmas
pub mod StepLemmas
mod Worked
