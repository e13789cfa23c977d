pub mod WorkingTree
pub mod Planned
pub mod Window
pub mod Sides
pub mod Reading
pub mod Asked
