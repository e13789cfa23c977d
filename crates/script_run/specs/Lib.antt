pub mod Ends
pub mod Headline
pub mod Long
pub mod Served
pub mod Status
