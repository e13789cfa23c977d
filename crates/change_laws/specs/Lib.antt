pub mod Tail
pub mod Suiting
pub mod Laying
