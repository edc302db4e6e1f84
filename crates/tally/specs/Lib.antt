pub mod Copies
pub mod Tallied
