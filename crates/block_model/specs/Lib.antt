pub mod Block
pub mod Place
pub mod Bitmap
pub mod Directory
