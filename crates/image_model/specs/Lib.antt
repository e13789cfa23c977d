pub mod Super
pub mod Directory
pub mod Catalog
pub mod Image
pub mod Checks
