pub mod Cut
pub mod Path
pub mod Left
