pub mod Failing
pub mod Parts
pub mod Reading
pub mod Sent
pub mod Words
