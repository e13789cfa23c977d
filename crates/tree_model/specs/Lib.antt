pub mod Node
pub mod Tree
pub mod Content
pub mod Range
