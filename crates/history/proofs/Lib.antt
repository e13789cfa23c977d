pub mod Acts
pub mod EventLaws
pub mod Ends
pub mod Objects
