pub mod Fixed
pub mod Parts
pub mod Pages
pub mod Opening
pub mod Returning
pub mod Refused
