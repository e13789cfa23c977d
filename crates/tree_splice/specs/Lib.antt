pub mod Remade
pub mod Way
pub mod Down
pub mod Scratch
pub mod Fresh
pub mod Splice
