pub mod State
pub mod Backlog
