pub mod Copies
pub mod Updates
pub mod Known
pub mod Inside
