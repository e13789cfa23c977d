pub mod Keeping
pub mod LetGo
pub mod InOrder
