pub mod Edits
pub mod Ends
pub mod Memory
pub mod Objects
pub mod Payloads
pub mod Splice
