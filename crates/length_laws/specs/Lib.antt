pub mod KeepsLength
