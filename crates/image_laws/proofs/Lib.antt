pub mod RestLemmas
pub mod UsedLemmas
pub mod SoundLemmas
pub mod CheckLemmas
pub mod WalkLemmas
pub mod NodeLemmas
pub mod PassLemmas
pub mod ByteLists
mod Worked
pub mod FitLemmas
pub mod GoLemmas
