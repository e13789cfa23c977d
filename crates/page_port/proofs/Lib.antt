pub mod PageLists
pub mod Slots
pub mod GeometryLaws
