pub mod Copied
pub mod Judging
pub mod Kept
