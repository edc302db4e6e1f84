pub mod Moments
pub mod Shown
