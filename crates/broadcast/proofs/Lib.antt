pub mod Running
pub mod Seating
pub mod Standing
pub mod Appending
pub mod Lives
