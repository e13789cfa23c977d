pub mod Lengths
pub mod Form
pub mod Places
pub mod Memory
pub mod Moves
pub mod Calls
pub mod Stored
pub mod Object
