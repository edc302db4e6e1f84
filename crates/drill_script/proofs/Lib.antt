pub mod Again
pub mod Faults
pub mod Joined
pub mod Keywords
pub mod Lines
pub mod Parts
pub mod Steps
pub mod Taken
