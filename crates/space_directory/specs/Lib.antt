pub mod Slots
pub mod SpaceView
pub mod Held
pub mod Opening
pub mod Runs
