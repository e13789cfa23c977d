pub mod Pages
pub mod Device
pub mod Memory
pub mod MemoryBay
