pub mod PieceLemmas
pub mod RoomLemmas
pub mod MadeLemmas
pub mod AskedLemmas
