pub mod Shelving
pub mod Solo
