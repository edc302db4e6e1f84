pub mod Fields
pub mod Hosts
pub mod Heads
pub mod Judgement
pub mod Lines
