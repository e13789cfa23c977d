pub mod NumberLaws
pub mod PageLaws
pub mod Worked
