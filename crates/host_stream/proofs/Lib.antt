pub mod Saying
pub mod Sized
